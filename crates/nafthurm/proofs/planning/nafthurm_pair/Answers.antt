use mathlib.Core.Path.{ap, ◌∙◌}
use Rattle.nafthurm.specs.Forms.{planned_for}
use Rattle.nafthurm.proofs.Numbers.{planned_number}
use Rattle.nafthurm.proofs.planning.nafthurm_pair.Goals as goal

pub returns : goal.returns
returns c = record { value = c.into.ensures ∙ ap planned_for c.pair.ensures.value; number = λ n h. planned_number _ _ c.into.ensures ∙ c.pair.ensures.number n h }
