-- Demand 3, of what a route sheet written by planning from its source says of a destination, unlisted ones included.
use Rattle.std.specs.Prelude.{ℕ, List}
use Rattle.plan.specs.Checks.{Limits}
use Rattle.choice.specs.Demand.{PlannedIn}
use Rattle.routes.specs.Says.{says}
use Rattle.planned_sheet.specs.Sheet.{planned_sheet}

-- The entry for no clear choice, 11, is the refusal of a route; a lookup is declined by nothing else.
abbrev pub SheetDemand : Limits → List ℕ → ℕ → ℕ → Type 0
SheetDemand L p S D = PlannedIn p S D (says L p (planned_sheet L p S) D)
