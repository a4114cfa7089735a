use mathlib.Core.Path.{refl}
use Rattle.second_via.proofs.Sums.{all_unclear}
use Rattle.second_via.proofs.reach.reach.Goals as goal

pub returns : goal.returns
returns c = c.store.ensures refl all_unclear
