use native.Mathlib.Omega.{arith}
use Rattle.rows.proofs.Taking.{product_is}
use Rattle.rows.proofs.product.product.Goals as goal

-- src/product.rt:88:1
pub returns : goal.returns
returns c = product_is _ _ _ _ _ (omega arith) (omega arith) c.less.ensures c.less-2.ensures
