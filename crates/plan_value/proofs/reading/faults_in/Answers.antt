use native.Mathlib.Omega.{arith}
use Rattle.sheet.proofs.Fill.{begin, onward, ended}
use Rattle.plan.specs.Layout.{faults_of}
use Rattle.plan_value.specs.Reading.{no_fault, fault_array}
use Rattle.plan.proofs.Plans.{within_large}
use Rattle.plan_value.proofs.reading.faults_in.Goals as goal

pub loop-i-init : goal.loop-i-init
loop-i-init c = (c.count_in-count.ensures, begin no_fault _ 256 _ (omega (arith, c.count_in-count.ensures, (within_large _ c.requires).faults)))

pub loop-i-preserved : goal.loop-i-preserved
loop-i-preserved c = let inv = c.loop-i.invariant in (inv.0, onward no_fault _ 256 _ _ _ inv.1 _ c.fault_in.ensures c.loop-i-test.true)

pub returns : goal.returns
unfolding fault_array faults_of
returns c = let inv = c.loop-i.invariant in rw (← inv.0) (ended no_fault _ 256 _ _ _ inv.1 c.loop-i-test.false)
