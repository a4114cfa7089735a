-- Routes of over 4,095 entries are declined with 13: past the array's end there is no entry.
use Prim.Native.Nat.{ℕ, ◌≤◌, ◌<◌}
use native.Mathlib.Omega.{arith}
use mathlib.Core.Path.{◌≡◌, refl, sym, ap, ◌∙◌}
use mathlib.Core.Bool.{true, false, not, ◌&&◌, false≢true}
use mathlib.Core.List.{List}
use lib.ListN.{length, get_or, get_or-eq_default}
use lib.Dec.{eqb}
use Rattle.numbers.specs.Numbers.{wrong_route_sheet}
use Rattle.theory.specs.Checks.{◌then◌}
use Rattle.theory.proofs.Bools.{and_true}
use Rattle.theory.proofs.Cases.{test}
use Rattle.sheet.specs.Bytes.{list_from}
use Rattle.sheet.proofs.Records.{from_at}
use Rattle.shape.specs.declared.shape.Shape.{Shape}
use Rattle.machine.specs.Node.{is_node}
use Rattle.plan.specs.Layout.{shape_of}
use Rattle.plan.specs.Checks.{Limits, plan_error}
use Rattle.routes.specs.Layout.{format_of, entries_in, source, entry_count, entry_at, no_entry, most_entries}
use Rattle.routes.specs.Kinds.{via_kind, vias_kind, plain_kind}
use Rattle.routes.specs.Checks.{head_good, via_good, entry_good, entries_good, routes_good, good_in, sheet_good, error_in, sheet_error}
use Rattle.routes.proofs.Rising.{each_good}
use Rattle.route_value.specs.declared.reading.Routes.{Routes}
use Rattle.route_value.specs.Writing.{route_entries, sheet_of}
use Rattle.route_value.proofs.Writings.{count_read, entry_read_law, entries_count}

no_entry_bad : (m : Shape) (S : ℕ) → via_good m S no_entry ≡ false
unfolding via_good vias_kind via_kind plain_kind
no_entry_bad m S = refl

past : (r : Routes) (k : ℕ) → length r.entries ≤ k → k < r.count → get_or (route_entries r) k no_entry ≡ no_entry
unfolding route_entries
past r k h b =
    from_at (λ i. get_or r.entries i no_entry) r.count 0 k no_entry b
    ∙ ap (λ (i : ℕ). get_or r.entries i no_entry) {y = k} (omega arith)
    ∙ get_or-eq_default r.entries no_entry h

module _ (r : Routes) (long : length r.entries ≡ most_entries) (many : most_entries < r.count) (b : r.count < 65536) where
  no_entry_law : entry_at (sheet_of r) most_entries ≡ no_entry
  unfolding sheet_of
  no_entry_law =
      let z = past r most_entries (omega arith) many in
      entry_read_law r.source (route_entries r) most_entries (omega (arith, entries_count r)) (rw z (record { dest = omega arith; via = omega arith; second = omega arith })) ∙ z

  of_own : (s : List ℕ) (m : Shape) (S : ℕ) → entries_good m S 0 (entries_in (format_of s) s) ≡ true → entries_good m S 0 (list_from (entry_at s) 0 (entry_count s)) ≡ true
  unfolding entry_at
  of_own s m S h = h

  bad : (m : Shape) → sheet_good m (sheet_of r) ≡ true → ⊥
  unfolding good_in routes_good sheet_of entry_good
  bad m h =
      let s = sheet_of r in
      let S = source s in
      let p = and_true (head_good (format_of s) s) _ h in
      let q = and_true (is_node m S) _ p.1 in
      let n : entry_count s ≡ r.count = count_read r.source (route_entries r) (omega (arith, entries_count r)) ∙ entries_count r in
      let good : entries_good m S 0 (list_from (entry_at s) 0 (entry_count s)) ≡ true = of_own s m S q.1 in
      let e = each_good m S (entry_at s) (entry_count s) 0 0 good most_entries (omega arith) (omega arith) in
      let x = entry_at s most_entries in
      let v = (and_true (is_node m x.dest && not (eqb x.dest S)) (via_good m S x) e).1 in
      false≢true (sym (ap (via_good m S) no_entry_law ∙ no_entry_bad m S) ∙ v)

  pub too_many : (L : Limits) (p : List ℕ) → sheet_error L p (sheet_of r) ≡ (plan_error L p then wrong_route_sheet)
  unfolding sheet_error error_in
  too_many L p =
      let s = sheet_of r in
      let no : sheet_good (shape_of p) s ≡ false = test (sheet_good (shape_of p) s) (λ t. absurd (bad (shape_of p) t)) (λ t. t) in
      rw no
