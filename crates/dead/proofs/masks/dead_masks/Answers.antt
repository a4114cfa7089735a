use native.Mathlib.Omega.{arith}
use mathlib.Core.Path.{sym, ◌∙◌}
use Rattle.sheet.proofs.Outputs.{number_ok, number_err}
use Rattle.dead.proofs.Table.{begin, exists, onward, ended, declined_masks}
use Rattle.dead.proofs.masks.dead_masks.Goals as goal

pub returns-then-is_err : goal.returns-then-is_err
returns-then-is_err c n = declined_masks _ _ _ c.check.ensures (number_err _ (sym c.is_err.ensures.value ∙ c.if-is_err.true)) n

pub loop-i-init : goal.loop-i-init
loop-i-init c = begin _ _ _ (sym c.check.ensures ∙ number_ok _ (sym c.is_err.ensures.value ∙ c.if-is_err.false)) c.shape_in-shape.ensures _ c.count_in-i.ensures

pub mark_fault-requires : goal.mark_fault-requires
mark_fault-requires c = exists _ _ _ _ _ c.loop-i.invariant _ c.fault_in.ensures c.loop-i-test.true

pub loop-i-preserved : goal.loop-i-preserved
loop-i-preserved c = onward _ _ _ _ _ c.loop-i.invariant _ _ c.fault_in.ensures c.mark_fault.ensures c.loop-i-test.true

pub returns : goal.returns
returns c n = ended _ _ _ _ _ c.loop-i.invariant (omega arith) n
