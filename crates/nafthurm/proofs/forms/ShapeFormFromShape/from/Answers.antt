use Rattle.nafthurm.specs.Forms.{shape_for}
use mathlib.Core.Path.{refl}
use Rattle.nafthurm.proofs.forms.ShapeFormFromShape.from.Goals as goal

pub returns : goal.returns
unfolding shape_for
returns c = refl
