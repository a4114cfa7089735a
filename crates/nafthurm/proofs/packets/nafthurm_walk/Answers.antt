use mathlib.Core.Path.{◌∙◌}
use Rattle.nafthurm.proofs.Numbers.{walked_number}
use Rattle.nafthurm.proofs.packets.nafthurm_walk.Goals as goal

pub returns : goal.returns
returns c = rw (← c.from.ensures, ← c.into.ensures) (record { value = rw (← c.walk.ensures.value) c.walked_for.ensures; number = walked_number _ _ _ c.walked_for.ensures ∙ c.walk.ensures.ending_value })
