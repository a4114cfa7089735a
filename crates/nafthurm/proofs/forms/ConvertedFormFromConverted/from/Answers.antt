use Rattle.nafthurm.specs.Forms.{converted_for}
use Rattle.nafthurm.proofs.forms.ConvertedFormFromConverted.from.Goals as goal

pub returns : goal.returns
unfolding converted_for
returns c = rw (c.size.ensures, c.number.ensures)
