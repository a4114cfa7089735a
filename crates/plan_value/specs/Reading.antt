-- Reading a plan sheet: an accepted sheet as a value, or the cause for which a check declines it.
use Rattle.std.specs.Prelude.{ℕ, List, Result}
use Rattle.numbers.specs.declared.Refusal.{Refusal}
use Rattle.numbers.specs.Refusals.{answer}
use Rattle.sheet.specs.Bytes.{array_of}
use Rattle.plan.specs.declared.layout.Fault.{Fault}
use Rattle.sheet.specs.Head.{version}
use Rattle.plan.specs.Layout.{shape_of, weights_of, fault_count, faults_of}
use Rattle.plan.specs.Checks.{most_faults}
use Rattle.plan_value.specs.declared.reading.Plan.{Plan}

abbrev pub no_fault : Fault
no_fault = record { node = 0; kind = 0 }

-- The faults as an array of 256, with zeros past them.
unfoldable pub fault_array : List ℕ → List Fault
fault_array s = array_of no_fault most_faults (faults_of s)

unfoldable pub plan_of : List ℕ → Plan
plan_of s = record { version = version s; shape = shape_of s; weights = weights_of s; count = fault_count s; faults = fault_array s }

-- The plan, or the cause.
abbrev pub reading : ℕ → List ℕ → Result Plan Refusal
reading e s = answer e (plan_of s)
