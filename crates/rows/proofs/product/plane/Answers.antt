use mathlib.Core.Path.{◌∙◌}
use Rattle.rows.specs.Planes.{kept_row}
use Rattle.rows.proofs.Taking.{filled_turn}
use Rattle.rows.proofs.product.plane.Goals as goal

pub loop-j-preserved : goal.loop-j-preserved
unfolding kept_row
loop-j-preserved c = filled_turn _ _ _ _ _ c.loop-j.invariant c.loop-j-test.true (c.pick.ensures ∙ rw c.bit.ensures)
