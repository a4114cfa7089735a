use Rattle.nafthurm.specs.Forms.{walked_for}
use Rattle.nafthurm.proofs.forms.walked_for.Goals as goal

pub returns : goal.returns
unfolding walked_for
returns c = rw (c.ending_for.ensures, c.number.ensures, c.packet_for.ensures)
