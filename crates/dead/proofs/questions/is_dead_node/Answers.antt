use mathlib.Core.Path.{sym, ◌∙◌}
use Rattle.sheet.proofs.Outputs.{number_ok, number_err}
use Rattle.plan.proofs.Readings.{is_plan_law, is_no_plan}
use Rattle.dead.proofs.questions.is_dead_node.Goals as goal

pub returns-then-is_err : goal.returns-then-is_err
returns-then-is_err c = rw (is_no_plan _ _ _ c.check.ensures (number_err _ (sym c.is_err.ensures.value ∙ c.if-is_err.true)))

pub returns : goal.returns
returns c = rw (is_plan_law _ _ _ c.check.ensures (number_ok _ (sym c.is_err.ensures.value ∙ c.if-is_err.false))) c.node_in.ensures
