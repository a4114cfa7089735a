use mathlib.Core.Path.{refl}
use Rattle.masks.proofs.Arcs.{range_is}
use Rattle.masks.proofs.range.range.Goals as goal

-- src/range.rt:19:1
pub returns : goal.returns
returns c = range_is _ _ _ _ _ c.requires.0 c.ones-below.ensures.0 c.ones-under.ensures.0 refl
