use mathlib.Core.Path.{◌∙◌}
use Rattle.nafthurm.proofs.packets.nafthurm_packet_check.Goals as goal

pub returns : goal.returns
returns c = rw (← c.from.ensures, ← c.into.ensures) (c.number.ensures ∙ c.check.ensures)
