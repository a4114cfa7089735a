use mathlib.Core.Path.{refl}
use Rattle.sheet.proofs.Outputs.{not_0}
use Rattle.plan.proofs.Readings.{is_plan_law, is_no_plan}
use Rattle.plan.proofs.reading.weights_of.Goals as goal

pub returns-in-Ok : goal.returns-in-Ok
returns-in-Ok c = rw (is_plan_law _ _ _ c.in-Ok.ensures refl) c.weights_in.ensures

pub returns-in-Err : goal.returns-in-Err
returns-in-Err c = rw (is_no_plan _ _ _ c.in-Err.ensures (not_0 _))
