-- The value of a plan.
use Rattle.std.specs.Prelude.{ℕ, zero, suc, ◌<◌, get_or}
use Rattle.sheet.specs.Bytes.{array_of}
use Rattle.weights.specs.declared.weights.Weights.{Weights}
use Rattle.weights.specs.Weights.{ones}
use Rattle.plan.specs.declared.layout.Fault.{Fault}
use Rattle.plan.specs.Layout.{layout_of}
use Rattle.plan_value.specs.declared.reading.Plan.{Plan}
use Rattle.plan.specs.Checks.{most_faults}
use Rattle.plan_value.specs.Reading.{no_fault}
use Rattle.plan_value.specs.Writing.{plan_faults}

-- The numbers that a sheet holds in two bytes fit them, as the code's u16 do.
abbrev pub FaultFits : Fault → Type 0
FaultFits f = f.node < 65536

pub record Fits (p : Plan) : Type 0 where
  pub count : p.count < 65536
  pub faults : (i : ℕ) → i < p.count → FaultFits (get_or p.faults i no_fault)

-- The weights that a version with so many weight bytes holds: one without means weights of 1.
unfoldable pub held_weights : ℕ → Weights → Weights
held_weights zero w = ones
held_weights (suc _) w = w

-- The plan with zeros past its faults, and the weights that its version holds. What stands there else is no fault and no weight, and is not judged.
unfoldable pub cleared : Plan → Plan
cleared p = record {
  version = p.version;
  shape = p.shape;
  weights = held_weights (layout_of p.version).weights p.weights;
  count = p.count;
  faults = array_of no_fault most_faults (plan_faults p);
}
