-- Reading a plan sheet: whether it is accepted, the shape alone, and the weights alone.
use Rattle.std.specs.Prelude.{ℕ, Bool, cond, List, eqb}
use Rattle.shape.specs.declared.shape.Shape.{Shape}
use Rattle.weights.specs.declared.weights.Weights.{Weights}
use Rattle.plan.specs.Layout.{shape_of, weights_of}
use Rattle.plan.specs.Checks.{Limits, plan_error}

abbrev pub no_shape : Shape
no_shape = record { x = 0; y = 0; z = 0; wrap = 0 }

abbrev pub no_weights : Weights
no_weights = record { x = 0; y = 0; z = 0 }

-- An accepted plan is a sheet that none of a plan's checks declines.
unfoldable pub is_plan : Limits → List ℕ → Bool
is_plan L s = eqb (plan_error L s) 0

-- The shape alone: zeros where a check declines the sheet.
abbrev pub shape_answer : Limits → List ℕ → Shape
shape_answer L s = cond (is_plan L s) (shape_of s) no_shape

-- The weights alone: zeros where a check declines the sheet.
abbrev pub weights_answer : Limits → List ℕ → Weights
weights_answer L s = cond (is_plan L s) (weights_of s) no_weights
