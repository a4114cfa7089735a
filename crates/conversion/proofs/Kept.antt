-- What an accepted conversion keeps.
use Prim.Native.Nat.{ℕ, ◌<◌}
use mathlib.Core.Path.{◌≡◌, refl, ◌∙◌}
use mathlib.Core.Bool.{true, not}
use mathlib.Core.List.{List}
use lib.ListN.{length}
use borrow.Author.Tests.{not-false}
use Rattle.theory.specs.Run.{Call}
use Rattle.theory.specs.Marks.{New}
use Rattle.theory.specs.Alike.{SameLegs, RunsAlike}
use Rattle.theory.proofs.Bools.{and_true}
use Rattle.theory.proofs.Checks.{then_zero, declined_zero}
use Rattle.theory.proofs.Alike.{hops_same, runs_alike}
use Rattle.theory.proofs.Marks.{marked_hops, new_node, new_judged}
use Rattle.sheet.specs.Head.{version}
use Rattle.shape.specs.declared.shape.Shape.{Shape}
use Rattle.machine.specs.Node.{is_node}
use Rattle.machine.specs.Torus.{torus}
use Rattle.packet.specs.declared.packet.Packet.{Packet}
use Rattle.packet.specs.Packet.{kept, stored, WellStored}
use Rattle.packet.proofs.Stored.{kept_laws}
use Rattle.plan.specs.Layout.{shape_of}
use Rattle.plan.specs.Checks.{Limits}
use Rattle.choice.specs.Choice.{Choice}
use Rattle.choice.specs.Answer.{Given, answered}
use Rattle.routes.specs.Layout.{first, format_by, source, entries_in, entries_of}
use Rattle.routes.specs.Checks.{entries_good, routes_good, good_in, error_in, sheet_error}
use Rattle.routes.specs.Lookup.{lookup_error}
use Rattle.routes.specs.Says.{says_of, says}
use Rattle.routes.proofs.Sheets.{AcceptedIn, accepted_in, own_entries}
use Rattle.conversion.specs.Keeping.{old_torus, all_kept}
use Rattle.conversion.specs.Converting.{keep_error, converted}
use Rattle.conversion.specs.Kept.{said_before, Stands, Kept}
use Rattle.conversion.proofs.Judging.{long}
use Rattle.conversion.proofs.Bytes.{source_kept, entries_kept, head_kept, own_second}
use Rattle.conversion.proofs.Standing.{says_stands}

-- A good version 1 sheet, by its parts.
pub record Old (L : Limits) (p s : List ℕ) : Type 0 where
  pub sheet : AcceptedIn first L p s
  pub from : is_node (shape_of p) (source s) ≡ true
  pub entries : entries_good (shape_of p) (source s) 0 (entries_in first s) ≡ true

pub old_of : (L : Limits) (p s : List ℕ) → error_in first L p s ≡ 0 → Old L p s
unfolding routes_good
old_of L p s h =
    let a = accepted_in first L p s h in
    let e = and_true (is_node (shape_of p) (source s)) _ a.routes in
    record { sheet = a; from = e.0; entries = e.1 }

module _ (L : Limits) (p s : List ℕ) (h : keep_error L p s ≡ 0) where
  abbrev m : Shape
  m = shape_of p

  good : error_in first L p s ≡ 0
  unfolding keep_error
  good = (then_zero (error_in first L p s) _ h).0

  old : Old L p s
  old = old_of L p s good

  every : all_kept m (source s) (entries_in first s) ≡ true
  unfolding keep_error
  every = not-false _ (declined_zero (not (all_kept m (source s) (entries_in first s))) 16 (then_zero (error_in first L p s) _ h).1)

  some : 0 < length s
  some = long L p s h

  new_good : sheet_error L p (converted s) ≡ 0
  unfolding error_in good_in
  new_good =
      own_second s some L p
      ∙ rw (old.sheet.plan, head_kept s some old.sheet.head_good_law, source_kept s some, entries_kept s some, old.sheet.routes)

  new_entries : entries_of (converted s) ≡ entries_in first s
  unfolding format_by version converted
  new_entries = own_entries (converted s) ∙ entries_kept s some

  new_says : (D : ℕ) → says L p (converted s) D ≡ said_before L p s D
  unfolding says lookup_error said_before
  new_says D = rw (new_good, good, new_entries)

  -- Of a node the lookup is not declined.
  said_node : (D : ℕ) → is_node m D ≡ true → said_before L p s D ≡ says_of (entries_in first s) D
  unfolding said_before answered
  said_node D n = rw (good, n)

  stands : (D : ℕ) → is_node m D ≡ true → Stands m (source s) (said_before L p s D)
  stands D n = rw (said_node D n) (says_stands m (source s) old.from D (entries_in first s) 0 old.entries every)

  runs :
      (D : ℕ) → is_node m D ≡ true → (c : Choice) → said_before L p s D ≡ Given c →
      (q : Packet) → New (torus m) (kept m) WellStored (source s) c q → (calls : List Call) →
      RunsAlike (old_torus m) (torus m) (stored m) (source s) c q calls
  runs D n c e q new calls =
      let legs : SameLegs (old_torus m) (torus m) (source s) c = rw e at (stands D n) in
      runs_alike (old_torus m) _ (stored m) (hops_same (torus m) _ (stored m) (marked_hops (torus m) (kept m) (kept_laws m))) (source s) c q
      (new_node (torus m) (kept m) (kept_laws m) WellStored (source s) c q new) (new_judged (torus m) (kept m) (kept_laws m) WellStored (source s) c q new) legs calls

  -- The theorem.
  pub conversion_kept : Kept L p s
  unfolding converted
  conversion_kept = record {
    accepted = new_good;
    bytes = refl;
    entries = new_entries;
    from = source_kept s some;
    says = new_says;
    stands = stands;
    runs = runs;
  }
