use mathlib.Core.Path.{refl}
use Rattle.second_via.specs.Nodes.{key_of}
use Rattle.second_via.proofs.least.key.Goals as goal

pub returns : goal.returns
unfolding key_of
returns c = refl
