use mathlib.Core.Path.{refl}
use Rattle.rows.specs.Bits.{bit}
use Rattle.rows.proofs.product.bit.Goals as goal

-- src/product.rt:10:1
pub returns : goal.returns
unfolding bit
returns c = refl
