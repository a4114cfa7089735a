use mathlib.Core.Path.{refl}
use Rattle.rows.proofs.Taking.{keep_begin, keep_turn}
use Rattle.rows.proofs.product.keep.Goals as goal

pub loop-j-init : goal.loop-j-init
loop-j-init c = keep_begin _ _ _ c.requires

pub loop-j-preserved : goal.loop-j-preserved
loop-j-preserved c = keep_turn _ _ _ _ _ _ c.loop-j.invariant c.loop-j-test.true refl
