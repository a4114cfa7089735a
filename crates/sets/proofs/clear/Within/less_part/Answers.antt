use mathlib.Core.Path.{refl}
use Rattle.rows.proofs.Taking.{no_x}
use Rattle.sets.proofs.Taking.{part_is}
use Rattle.sets.proofs.clear.Within.less_part.Goals as goal

pub returns-then-x-eq0 : goal.returns-then-x-eq0
returns-then-x-eq0 c = part_is _ _ _ _ _ _ _ _ _ _ _ _ _ _ c.mask_in.ensures refl refl refl refl refl (no_x _ _ _ _ c.if-x-eq0.true)

pub returns : goal.returns
returns c = part_is _ _ _ _ _ _ _ _ _ _ _ _ _ _ c.mask_in.ensures c.mask_in-2.ensures c.mask_in-3.ensures refl refl refl c.less.ensures
