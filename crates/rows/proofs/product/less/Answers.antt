use native.Mathlib.Omega.{arith}
use Rattle.rows.proofs.Taking.{no_x, no_y, no_z}
use Rattle.rows.proofs.product.less.Goals.{else-places-ne0-via-then-places-ne0+then-places-ne0-2+else-places-ne0-3, else-places-ne0-via-then-places-ne0+else-places-ne0-2, else-places-ne0-via-else-places-ne0}
use Rattle.rows.proofs.product.less.Goals as goal

pub returns-else-places-ne0 : goal.returns-else-places-ne0
returns-else-places-ne0 c = elim c.else-places-ne0.branch [
  | else-places-ne0-via-then-places-ne0+then-places-ne0-2+else-places-ne0-3 w ↦ no_z _ _ _ _ (omega arith)
  | else-places-ne0-via-then-places-ne0+else-places-ne0-2 w ↦ no_y _ _ _ _ (omega arith)
  | else-places-ne0-via-else-places-ne0 w ↦ no_x _ _ _ _ (omega arith)
]
