-- What a sheet adds to the tally, by the converter's answer.
use Prim.Native.Nat.{ℕ, ◌≤◌}
use mathlib.Core.Path.{◌≡◌, ◌∙◌}
use mathlib.Core.List.{List}
use lib.ListN.{length}
use Rattle.plan.specs.Checks.{Limits}
use Rattle.conversion.specs.Converting.{keep_error, convert_error, lost_entry}
use Rattle.conversion.proofs.Judging.{room_enough}
use Rattle.convert.specs.declared.tally.Tally.{Tally}
use Rattle.convert.specs.Tally.{tallied}

-- With room for the sheet it is not 12.
pub one_sheet :
    (L : Limits) (p s o : List ℕ) → length s ≤ length o → (n i : ℕ) → n ≡ convert_error L p s o → i ≡ lost_entry L p s →
    (t r : Tally) → r ≡ tallied t s n i → r ≡ tallied t s (keep_error L p s) (lost_entry L p s)
one_sheet L p s o h n i en ei t r er = er ∙ rw (ei, en, room_enough L p s o h)
