use mathlib.Core.Path.{◌≡◌}
use Rattle.sheet.proofs.Fill.{Filling}
use Rattle.plan.specs.Layout.{fault_count, fault_at}
use Rattle.plan_value.specs.Reading.{no_fault}
use Rattle.plan_value.proofs.reading.faults_in.Given as goal

abbrev pub invariant-loop-i : goal.invariant-loop-i
invariant-loop-i l = (l.count ≡ fault_count l.sheet) × Filling no_fault (fault_at l.sheet) 256 l.count l.faults l.i
