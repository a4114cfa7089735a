use mathlib.Core.Path.{◌∙◌}
use Rattle.nafthurm.proofs.Numbers.{stepped_number}
use Rattle.nafthurm.proofs.packets.nafthurm_take_back.Goals as goal

pub returns : goal.returns
returns c = rw (← c.from.ensures, ← c.into.ensures) (record { value = rw (← c.take_back.ensures.value) c.stepped_for.ensures; number = stepped_number _ _ _ c.stepped_for.ensures ∙ c.take_back.ensures.answer_value })
