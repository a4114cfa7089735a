use Rattle.nafthurm.specs.Forms.{stepped_for}
use Rattle.nafthurm.proofs.forms.stepped_for.Goals as goal

pub returns : goal.returns
unfolding stepped_for
returns c = rw (c.number.ensures, c.packet_for.ensures)
