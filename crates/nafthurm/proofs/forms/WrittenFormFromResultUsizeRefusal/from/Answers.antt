use Rattle.nafthurm.specs.Forms.{written_for}
use Rattle.nafthurm.proofs.forms.WrittenFormFromResultUsizeRefusal.from.Goals as goal

pub returns : goal.returns
unfolding written_for
returns c = rw (c.size.ensures, c.number.ensures)
