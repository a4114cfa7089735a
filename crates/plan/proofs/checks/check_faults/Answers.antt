use mathlib.Core.Path.{sym, ◌∙◌}
use Rattle.plan.specs.Layout.{layout_of}
use Rattle.plan.proofs.Faults.{begin, refused, refused_order, onward, ended}
use Rattle.plan.proofs.checks.check_faults.Goals as goal

pub loop-i-init : goal.loop-i-init
loop-i-init c = begin _ _ _ _ _ c.count_in-i-end.ensures

pub returns-then-not-fault_good : goal.returns-then-not-fault_good
unfolding layout_of
returns-then-not-fault_good c = refused _ _ _ _ _ _ _ c.loop-i.invariant _ c.fault_in-f.ensures c.loop-i-test.true (sym c.fault_good.ensures ∙ c.if-not-fault_good.true)

pub returns-then-not_above : goal.returns-then-not_above
unfolding layout_of
returns-then-not_above c = refused_order _ _ _ _ _ _ _ c.loop-i.invariant _ c.fault_in-f.ensures c.loop-i-test.true (sym c.fault_good.ensures ∙ c.if-not-fault_good.false) (sym c.not_above.ensures ∙ c.if-not_above.true)

pub loop-i-preserved : goal.loop-i-preserved
loop-i-preserved c = onward _ _ _ _ _ _ _ c.loop-i.invariant _ c.fault_in-f.ensures c.loop-i-test.true (sym c.fault_good.ensures ∙ c.if-not-fault_good.false) (sym c.not_above.ensures ∙ c.if-not_above.false)

pub returns : goal.returns
unfolding layout_of
returns c = ended _ _ _ _ _ _ _ c.loop-i.invariant c.loop-i-test.false
