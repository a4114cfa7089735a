-- The code's own steps.
use Rattle.std.specs.Prelude.{ℕ, ◌+◌, ◌*◌, ◌%◌, Bool, not, cond, ◌&&◌, ◌||◌, List, ◌≡◌, eqb, ⊤, Result, Ok, Err}
use Rattle.numbers.specs.Numbers.{wrong_route_sheet, entry_not_kept}
use Rattle.theory.specs.Checks.{declined, ◌then◌}
use Rattle.shape.specs.declared.shape.Shape.{Shape}
use Rattle.shape.specs.declared.shape.Coords.{Coords}
use Rattle.shape.specs.declared.shape.Dim.{Dim}
use Rattle.shape.specs.declared.shape.Dim.TheVariants.{X, Y, Z}
use Rattle.shape.specs.Shape.{extent_of, wrapped_in, coord_of}
use Rattle.numbers.specs.Refusals.{number}
use Rattle.routes.specs.Layout.{first, entries_in}
use Rattle.conversion.specs.declared.judge.NotConverted.{NotConverted}
use Rattle.conversion.specs.declared.judge.NotConverted.TheVariants.{Refused, Lost}
use Rattle.conversion.specs.Keeping.{all_kept, first_lost}

-- Half a ring of len places is between p and q; and half a ring from an odd coordinate, by coordinates.
unfoldable pub half_between : ℕ → ℕ → ℕ → Bool
half_between len p q = eqb (2 * p + len) (2 * q) || eqb (2 * q + len) (2 * p)

unfoldable pub odd_half_at : Shape → Coords → Coords → Dim → Bool
odd_half_at s c t d = wrapped_in s d && (half_between (extent_of s d) (coord_of c d) (coord_of t d) && eqb (coord_of c d % 2) 1)

unfoldable pub odd_half_of : Shape → Coords → Coords → Bool
odd_half_of s c t = odd_half_at s c t X || (odd_half_at s c t Y || odd_half_at s c t Z)

-- Why a sheet is not converted, as a number, 0 where it is; and the entry that is named, else 0.
abbrev pub judged_number : {A : Type 0} → Result A NotConverted → ℕ
judged_number (Ok a) = 0
judged_number (Err (Refused e)) = number e
judged_number (Err (Lost i)) = entry_not_kept

abbrev pub judged_entry : {A : Type 0} → Result A NotConverted → ℕ
judged_entry (Ok a) = 0
judged_entry (Err (Refused e)) = 0
judged_entry (Err (Lost i)) = i

-- What is judged of the entries of a sheet from the source S: 13 where it is not good, then 17, with the first that cannot be kept.
pub record Judged (good : Bool) (m : Shape) (S : ℕ) (s : List ℕ) (r : Result ⊤ NotConverted) : Type 0 where
  pub number : judged_number r ≡ (declined (not good) wrong_route_sheet then declined (not (all_kept m S (entries_in first s))) entry_not_kept)
  pub entry : judged_entry r ≡ cond (good && not (all_kept m S (entries_in first s))) (first_lost m S (entries_in first s)) 0
