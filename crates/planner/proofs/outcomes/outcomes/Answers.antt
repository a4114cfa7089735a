use mathlib.Core.Path.{sym, ◌∙◌}
use lib.ListN.{replicate}
use Rattle.planner.specs.Outcomes.{no_outcome}
use Rattle.sheet.proofs.Outputs.{number_ok, number_err}
use Rattle.planner.proofs.EachOutcome.{declined, numbered}
use Rattle.planner.proofs.outcomes.outcomes.Goals as goal

pub returns-then-is_err : goal.returns-then-is_err
returns-then-is_err c = numbered _ _ (replicate 4096 no_outcome) (declined _ _ _ c.check_source.ensures (number_err _ (sym c.is_err.ensures.value ∙ c.if-is_err.true)))

pub outcomes_from-requires : goal.outcomes_from-requires
outcomes_from-requires c = sym c.check_source.ensures ∙ number_ok _ (sym c.is_err.ensures.value ∙ c.if-is_err.false)

pub returns : goal.returns
returns c = numbered _ _ _ c.outcomes_from.ensures
