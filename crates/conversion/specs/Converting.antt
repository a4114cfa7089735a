-- The converter: 'reads version 1 only, anything else being 13, writes version 2 with the entries' bytes unchanged'.
use Rattle.std.specs.Prelude.{ℕ, not, cond, ◌&&◌, List, ◌∷◌, drop, eqb}
use Rattle.numbers.specs.Numbers.{entry_not_kept}
use Rattle.theory.specs.Checks.{declined, ◌then◌}
use Rattle.sheet.specs.Output.{room_error}
use Rattle.plan.specs.Layout.{shape_of}
use Rattle.plan.specs.Checks.{Limits}
use Rattle.routes.specs.Layout.{first, second, source, entries_in}
use Rattle.routes.specs.Checks.{error_in}
use Rattle.conversion.specs.Keeping.{all_kept, first_lost}

-- 17, an entry that cannot be kept, is tested after 13, 'under the plan's shape'.
unfoldable pub keep_error : Limits → List ℕ → List ℕ → ℕ
keep_error L p s = error_in first L p s then declined (not (all_kept (shape_of p) (source s) (entries_in first s))) entry_not_kept

-- All bytes but the version stay.
unfoldable pub converted : List ℕ → List ℕ
converted s = second.version ∷ drop 1 s

-- 'Output too short is 12, after all else.'
abbrev pub convert_error : Limits → List ℕ → List ℕ → List ℕ → ℕ
convert_error L p s o = room_error (keep_error L p s) (converted s) o

-- The number of the first entry that cannot be kept, where 17 declines; else 0.
unfoldable pub lost_entry : Limits → List ℕ → List ℕ → ℕ
lost_entry L p s =
    cond (eqb (error_in first L p s) 0 && not (all_kept (shape_of p) (source s) (entries_in first s)))
    (first_lost (shape_of p) (source s) (entries_in first s)) 0
