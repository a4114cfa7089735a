-- 'Long cables in Z': each dimension has a weight, 1 to 8.
use Rattle.std.specs.Prelude.{ℕ, Bool, ◌||◌, ltb}
use Rattle.numbers.specs.Numbers.{weight_outside}
use Rattle.theory.specs.Checks.{declined, ◌then◌}
use Rattle.shape.specs.declared.shape.Dim.{Dim}
use Rattle.shape.specs.declared.shape.Dim.TheVariants.{X, Y, Z}
use Rattle.weights.specs.declared.weights.Weights.{Weights}

-- The weight of a dimension.
abbrev pub weight_of : Weights → Dim → ℕ
weight_of w X = w.x
weight_of w Y = w.y
weight_of w Z = w.z

-- Version 1 means weights of 1.
abbrev pub ones : Weights
ones = record { x = 1; y = 1; z = 1 }

-- A weight outside 1 to 8, also of a dimension of extent 1.
abbrev pub bad_weight : ℕ → Bool
bad_weight n = ltb n 1 || ltb 8 n

unfoldable pub bad_weights : Weights → Bool
bad_weights w = bad_weight w.x || (bad_weight w.y || bad_weight w.z)

-- Check 16.
unfoldable pub weight_error : Weights → ℕ
weight_error w = declined (bad_weights w) weight_outside then 0
