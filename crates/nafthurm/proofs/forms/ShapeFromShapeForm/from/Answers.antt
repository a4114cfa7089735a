use Rattle.nafthurm.specs.Forms.{shape_of}
use mathlib.Core.Path.{refl}
use Rattle.nafthurm.proofs.forms.ShapeFromShapeForm.from.Goals as goal

pub returns : goal.returns
unfolding shape_of
returns c = refl
