use Rattle.rows.proofs.Taking.{not_kept_law, is_kept}
use Rattle.rows.proofs.product.keep_if.Goals as goal

-- src/product.rt:49:1
pub returns-then-b : goal.returns-then-b
returns-then-b c = is_kept _ _ _ _ _ c.if-b.true c.keep.ensures

-- src/product.rt:49:1
pub returns-else-b : goal.returns-else-b
returns-else-b c = not_kept_law _ _ _ _ c.if-b.false
