use Rattle.nafthurm.specs.Forms.{weights_for}
use mathlib.Core.Path.{refl}
use Rattle.nafthurm.proofs.forms.WeightsFormFromWeights.from.Goals as goal

pub returns : goal.returns
unfolding weights_for
returns c = refl
