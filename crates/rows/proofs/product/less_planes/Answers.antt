use native.Mathlib.Omega.{arith}
use Rattle.rows.proofs.Taking.{product_begin, product_end}
use Rattle.rows.proofs.product.less_planes.Goals as goal

pub returns : goal.returns
returns c = product_end _ _ _ _ _ _ 16 (c.less_half-2.ensures _ _ _ (c.less_half.ensures _ _ _ (product_begin _ _ _ _ _ (omega arith) c.plane-kept.ensures))) (omega arith)
