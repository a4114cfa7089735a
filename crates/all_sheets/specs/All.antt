-- The route sheets of all sound boards of a plan, for the large caller.
use Rattle.std.specs.Prelude.{ℕ, zero, suc, ◌-◌, cond, List, [], ◌∷◌, eqb}
use Rattle.machine.specs.Number.{node_count}
use Rattle.plan.specs.Layout.{shape_of}
use Rattle.plan.specs.Checks.{large}
use Rattle.plan.specs.Reading.{is_plan}
use Rattle.planned_sheet.specs.Sheet.{source_error, planned_sheet}

-- The planned sheets of the sound ones of the n boards from S on, in rising order. A dead board has none.
unfoldable pub sheets_from : List ℕ → ℕ → ℕ → List (List ℕ)
sheets_from p S zero = []
sheets_from p S (suc n) =
    let later = sheets_from p (suc S) n in
    cond (eqb (source_error large p S) 0) (planned_sheet large p S ∷ later) later

-- The sheets that are left from the board S on; none of a plan that a check declines.
unfoldable pub left : List ℕ → ℕ → List (List ℕ)
left p S = cond (is_plan large p) (sheets_from p S (node_count (shape_of p) - S)) []

abbrev pub all_sheets : List ℕ → List (List ℕ)
all_sheets p = left p 0
