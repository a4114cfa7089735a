-- Distance, wherever the papers use it but for useful hops: a hop adds its dimension's weight, so the hops in each dimension count by its weight.
use Rattle.std.specs.Prelude.{ℕ, ◌+◌, ◌*◌, cond, eqb}
use Rattle.shape.specs.declared.shape.Shape.{Shape}
use Rattle.shape.specs.declared.shape.Dim.{Dim}
use Rattle.shape.specs.declared.shape.Dim.TheVariants.{X, Y, Z}
use Rattle.machine.specs.Hop.{part}
use Rattle.machine.specs.Node.{are_pair}
use Rattle.weights.specs.declared.weights.Weights.{Weights}
use Rattle.weights.specs.Weights.{weight_of, weight_error}

-- In one dimension.
abbrev pub weighed : Weights → Shape → ℕ → ℕ → Dim → ℕ
weighed w s n t d = weight_of w d * part s n t d

unfoldable pub distance : Weights → Shape → ℕ → ℕ → ℕ
distance w s n t = weighed w s n t X + weighed w s n t Y + weighed w s n t Z

-- What is answered, for all weights, every shape and every number.
unfoldable pub distance_answer : Weights → Shape → ℕ → ℕ → ℕ
distance_answer w s n t = cond (are_pair s n t) (cond (eqb (weight_error w) 0) (distance w s n t) 0) 0
