use mathlib.Core.Path.{refl}
use Rattle.rows.proofs.Taking.{filled_begin, filled_turn, filled_end}
use Rattle.masks.proofs.Tables.{block_none, block_some}
use Rattle.masks.proofs.table.block.Goals as goal

pub returns-then-axis-at : goal.returns-then-axis-at
returns-then-axis-at c = block_none _ _ _ _ _ c.if-axis-at.true

pub loop-j-init : goal.loop-j-init
loop-j-init c = filled_begin _ _ _ refl

pub loop-j-preserved : goal.loop-j-preserved
loop-j-preserved c = filled_turn _ _ _ _ _ c.loop-j.invariant c.loop-j-test.true (block_some _ _ _ _ _ _ _ c.if-axis-at.false (let e = c.new-legs.ensures in rw (e.0, e.1, e.2, e.3) at c.mask.ensures))

pub returns : goal.returns
returns c = filled_end _ _ _ _ c.loop-j.invariant c.loop-j-test.false
