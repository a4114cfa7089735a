use mathlib.Core.Path.{sym, ◌∙◌}
use Rattle.masks.proofs.Tables.{extent_most, blocks_turn, of_any, table_is, table_none}
use Rattle.masks.proofs.table.table.Goals as goal

pub returns-then-is_err : goal.returns-then-is_err
returns-then-is_err c = table_none _ _ _ _ c.check.ensures (sym c.is_err.ensures.value ∙ c.if-is_err.true)

pub block-requires : goal.block-requires
block-requires c = extent_most _ _ c.check.ensures (sym c.is_err.ensures.value ∙ c.if-is_err.false) _ _ c.axis-axis.ensures

pub loop-k-preserved : goal.loop-k-preserved
loop-k-preserved c = blocks_turn _ _ _ _ _ _ c.loop-k.invariant c.lay.auto.masks c.lay.ensures.here c.lay.ensures.before (λ j l. of_any _ _ _ _ _ _ _ j l c.dim_at.ensures c.axis-axis.ensures (c.block.ensures j l))

pub returns : goal.returns
returns c = table_is _ _ _ _ c.check.ensures (sym c.is_err.ensures.value ∙ c.if-is_err.false) _ _ c.loop-k-test.false c.loop-k.invariant
