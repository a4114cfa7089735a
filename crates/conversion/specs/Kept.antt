-- 'And so keeps each listed walk as it was': what a conversion keeps, and that it declines no entry that could be kept. Nothing is said of clear legs or of
-- the order: those are claimed of sheets as planned, by the rule they were planned under.
use Rattle.std.specs.Prelude.{ℕ, ◌<◌, ◌≡◌, ◌↔◌, true, not, drop}
use mathlib.Core.List.{List, Memᴰ}
use Rattle.numbers.specs.Numbers.{node_outside, no_clear_choice, entry_not_kept}
use Rattle.theory.specs.Checks.{declined, ◌then◌}
use Rattle.theory.specs.Run.{Call}
use Rattle.theory.specs.Marks.{New}
use Rattle.theory.specs.Alike.{SameLegs, RunsAlike}
use Rattle.shape.specs.declared.shape.Shape.{Shape}
use Rattle.machine.specs.Node.{is_node}
use Rattle.machine.specs.Torus.{torus}
use Rattle.packet.specs.declared.packet.Packet.{Packet}
use Rattle.packet.specs.Packet.{kept, stored, WellStored}
use Rattle.plan.specs.Layout.{shape_of}
use Rattle.plan.specs.Checks.{Limits}
use Rattle.choice.specs.Choice.{Choice}
use Rattle.choice.specs.Answer.{Answer, Given, Refused, answered}
use Rattle.routes.specs.declared.layout.Entry.{Entry}
use Rattle.routes.specs.Layout.{first, source, entry_count, entry_in, entries_in, entries_of}
use Rattle.routes.specs.Checks.{error_in, sheet_error}
use Rattle.routes.specs.Said.{said_by}
use Rattle.routes.specs.Says.{says_of, says}
use Rattle.conversion.specs.Keeping.{old_torus}
use Rattle.conversion.specs.Converting.{keep_error, converted, lost_entry}

-- What a lookup answered while version 1 was the one that was read: the plan's checks, 13, 9, or what the sheet says.
unfoldable pub said_before : Limits → List ℕ → List ℕ → ℕ → Answer
said_before L p s D = answered (error_in first L p s then declined (not (is_node (shape_of p) D)) node_outside) (says_of (entries_in first s) D)

-- What is said from the source S stands as it was: each leg of a route has the same walks by the old rule and the new one; a refusal is not 11, 'which the
-- new rule may solve'.
abbrev pub Stands : Shape → ℕ → Answer → Type 0
Stands m S (Given c) = SameLegs (old_torus m) (torus m) S c
Stands m S (Refused e) = e ≡ no_clear_choice → ⊥

-- i is the first of the numbers below n for which Q does not hold.
pub record FirstOf (n : ℕ) (Q : ℕ → Type 0) (i : ℕ) : Type 0 where
  pub below : i < n
  pub fails : Q i → ⊥
  pub before : (j : ℕ) → j < i → Q j

-- Of a sheet s that the converter accepts under the plan p. accepted, bytes: the new sheet is a good one with the same bytes behind its version.
-- says: of every destination, unlisted ones included, it says what the old one said. stands: that stands as it was. runs: so every list of step and walk
-- calls from a new packet of a route that it says runs alike by both rules.
pub record Kept (L : Limits) (p s : List ℕ) : Type 0 where
  pub accepted : sheet_error L p (converted s) ≡ 0
  pub bytes : drop 1 (converted s) ≡ drop 1 s
  pub entries : entries_of (converted s) ≡ entries_in first s
  pub from : source (converted s) ≡ source s
  pub says : (D : ℕ) → says L p (converted s) D ≡ said_before L p s D
  pub stands : (D : ℕ) → is_node (shape_of p) D ≡ true → Stands (shape_of p) (source s) (said_before L p s D)
  pub runs :
      (D : ℕ) → is_node (shape_of p) D ≡ true → (c : Choice) → said_before L p s D ≡ Given c →
      (q : Packet) → New (torus (shape_of p)) (kept (shape_of p)) WellStored (source s) c q → (calls : List Call) →
      RunsAlike (old_torus (shape_of p)) (torus (shape_of p)) (stored (shape_of p)) (source s) c q calls

-- Of a sheet s that is a good version 1 sheet under p. kept: it is accepted exactly if what every entry says stands as it was. otherwise: else it is 17.
-- named: and then the entry named is the first that does not stand.
pub record Exact (L : Limits) (p s : List ℕ) : Type 0 where
  pub kept : (keep_error L p s ≡ 0) ↔ ((e : Entry) → Memᴰ e (entries_in first s) → Stands (shape_of p) (source s) (said_by e))
  pub otherwise : (keep_error L p s ≡ 0 → ⊥) → keep_error L p s ≡ entry_not_kept
  pub named : keep_error L p s ≡ entry_not_kept → FirstOf (entry_count s) (λ i. Stands (shape_of p) (source s) (said_by (entry_in first s i))) (lost_entry L p s)
