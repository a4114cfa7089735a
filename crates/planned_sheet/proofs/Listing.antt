-- The entries of the sheet of a sound source, one destination after the other.
use Prim.Native.Nat.{ℕ, zero, suc, ◌+◌, ◌-◌, ◌≤◌, ◌<◌}
use native.Mathlib.Omega.{arith}
use native.Mathlib.Numerals.{add-one}
use mathlib.Core.Path.{◌≡◌, sym, ap, ◌∙◌}
use mathlib.Core.Bool.{true, false, cond}
use mathlib.Core.List.{List, [], ◌∷◌, ◌++◌, append_assoc, append-nil}
use lib.ListN.{length, length-append}
use Rattle.numbers.specs.Numbers.{dead_end, no_clear_choice}
use Rattle.machine.specs.Number.{node_count}
use Rattle.machine.specs.Node.{is_node}
use Rattle.machine.proofs.Nodes.{node_of}
use Rattle.plan.specs.Layout.{shape_of}
use Rattle.plan.specs.Checks.{large}
use Rattle.dead.proofs.Table.{is_node_law}
use Rattle.choice.specs.declared.outcome.Outcome.{Outcome}
use Rattle.choice.specs.Answer.{Answer}
use Rattle.choice.specs.Outcome.{told}
use Rattle.choice.specs.Pair.{far_in, pair}
use Rattle.routes.specs.declared.layout.Entry.{Entry}
use Rattle.routes.specs.Layout.{most_entries}
use Rattle.routes.specs.Said.{entry_for, heard}
use Rattle.routes.proofs.Saying.{entry_told, refusal_told}
use Rattle.planned_sheet.specs.Sheet.{lists, entries_from}
use Rattle.planned_sheet.proofs.Planning.{Source, answer_is, sheet_few}
use Rattle.planned_sheet.proofs.Unlisted.{direct_clear, unclear_listed, clear_unlisted}

-- The entry of a destination, from the code's enum of its answer.
pub entry_is : (p : List ℕ) (S : ℕ) → Source large p S → (D : ℕ) → is_node (shape_of p) D ≡ true → entry_for D (heard D (told (far_in p) S (pair large p S D))) ≡ entry_for D (pair large p S D)
entry_is p S s D node =
    answer_is large p S s D node (λ x. entry_for D (heard D (told (far_in p) S x)) ≡ entry_for D x)
    (refusal_told (far_in p) S D dead_end) (refusal_told (far_in p) S D no_clear_choice) (λ c a. entry_told (far_in p) (shape_of p) S D c a)

-- ---- the entries es are those of the destinations before d
pub record Listing (p : List ℕ) (S : ℕ) (es : List Entry) (d : ℕ) : Type 0 where
  pub within : d ≤ node_count (shape_of p)
  pub sum : es ++ entries_from large p S d (node_count (shape_of p) - d) ≡ entries_from large p S 0 (node_count (shape_of p))

module _ (p : List ℕ) (S : ℕ) where
  pub begin : Listing p S [] 0
  begin = record { within = omega arith; sum = let z : node_count (shape_of p) - 0 ≡ node_count (shape_of p) = omega arith in rw z }

  module _ (s : Source large p S) (es : List Entry) (d : ℕ) (g : Listing p S es d) where
    all_few : length es + length (entries_from large p S d (node_count (shape_of p) - d)) ≤ most_entries
    all_few = omega (arith, sheet_few large p S s, length-append es (entries_from large p S d (node_count (shape_of p) - d)), ap length g.sum)

    pub few : length es ≤ most_entries
    few = omega (arith, all_few)

    module _ (l : d < node_count (shape_of p)) where
      abbrev x : Answer
      x = pair large p S d

      abbrev behind : List Entry
      behind = entries_from large p S (d + 1) (node_count (shape_of p) - (d + 1))

      rest : entries_from large p S d (node_count (shape_of p) - d) ≡ cond (lists x) (entry_for d x ∷ behind) behind
      unfolding entries_from
      rest = let e : node_count (shape_of p) - d ≡ suc (node_count (shape_of p) - (d + 1)) = omega arith in rw (e, add-one d)

      room : lists x ≡ true → length es < most_entries
      room h =
          let e : entries_from large p S d (node_count (shape_of p) - d) ≡ entry_for d x ∷ behind = rest ∙ rw h in
          omega (arith, all_few, ap length e)

      next_listed : lists x ≡ true → Listing p S (es ++ (entry_for d x ∷ [])) (d + 1)
      next_listed h = record {
        within = omega arith;
        sum = append_assoc es (entry_for d x ∷ []) behind ∙ ap (λ a. es ++ a) (sym (rest ∙ rw h)) ∙ g.sum;
      }

      next_unlisted : lists x ≡ false → Listing p S es (d + 1)
      next_unlisted h = record { within = omega arith; sum = ap (λ a. es ++ a) (sym (rest ∙ rw h)) ∙ g.sum }

      -- The entry of a destination that is listed.
      pub entered : direct_clear p S d ≡ false → (o : Outcome) (e : Entry) → o ≡ told (far_in p) S x → e ≡ entry_for d (heard d o) → (length es < most_entries) × Listing p S (es ++ (e ∷ [])) (d + 1)
      entered c o e eo ee =
          let node = is_node_law (shape_of p) d (record { sound = (node_of (shape_of p) S s.node).sound; below = l }) in
          let h = unclear_listed p S s d node c in
          let made : e ≡ entry_for d x = ee ∙ ap (λ y. entry_for d (heard d y)) eo ∙ entry_is p S s d node in
          (room h, rw made (next_listed h))

  -- Destinations that are not listed are passed over.
  module _ (s : Source large p S) (es : List Entry) where
    pub passed : (k d : ℕ) → d + k ≤ node_count (shape_of p) → ((v : ℕ) → d ≤ v → v < d + k → direct_clear p S v ≡ true) → Listing p S es d → Listing p S es (d + k)
    passed zero d m c g = let z : d + 0 ≡ d = omega arith in rw z g
    passed (suc k) d m c g =
        let node = is_node_law (shape_of p) d (record { sound = (node_of (shape_of p) S s.node).sound; below = omega arith }) in
        let one : Listing p S es (d + 1) = next_unlisted s es d g (omega arith) (clear_unlisted p S s d node (c d (omega arith) (omega arith))) in
        let z : d + suc k ≡ (d + 1) + k = omega arith in
        rw z (passed k (d + 1) (omega arith) (λ v a b. c v (omega arith) (omega arith)) one)

  pub ended : (es : List Entry) (d : ℕ) → Listing p S es d → node_count (shape_of p) ≤ d → es ≡ entries_from large p S 0 (node_count (shape_of p))
  unfolding entries_from
  ended es d g h = let z : node_count (shape_of p) - d ≡ 0 = omega arith in sym (append-nil es) ∙ rw z at g.sum
