-- What planning answers for every destination of a source, as the code's enum.
use Rattle.std.specs.Prelude.{ℕ, ◌&&◌, List, ltb, eqb}
use Rattle.machine.specs.declared.leg.Mode.TheVariants.{Adaptive}
use Rattle.machine.specs.Number.{node_count}
use Rattle.plan.specs.Layout.{shape_of}
use Rattle.plan.specs.Checks.{Limits}
use Rattle.packet.specs.declared.route.Route.{Route}
use Rattle.choice.specs.declared.outcome.Outcome.{Outcome}
use Rattle.choice.specs.Outcome.{told}
use Rattle.choice.specs.Pair.{far_in, pair}
use Rattle.choice_number.specs.Told.{pick_outcome}
use Rattle.planned_sheet.specs.Sheet.{source_error}

-- What an array of outcomes holds of no destination.
abbrev pub no_outcome : Outcome
no_outcome = Outcome.Given (Route.Direct Adaptive) 0

-- Of the destination d; nothing where a check declines the source, or past the nodes.
unfoldable pub outcome_at : Limits → List ℕ → ℕ → ℕ → Outcome
outcome_at L p S d = pick_outcome (eqb (source_error L p S) 0 && ltb d (node_count (shape_of p))) (told (far_in p) S (pair L p S d)) no_outcome
