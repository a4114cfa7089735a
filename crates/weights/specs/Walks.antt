-- What the hops of a walk add up to: each its dimension's weight.
use Rattle.std.specs.Prelude.{ℕ, ◌+◌, List, [], ◌∷◌}
use Rattle.machine.specs.Hop.{dir_dim}
use Rattle.weights.specs.declared.weights.Weights.{Weights}
use Rattle.weights.specs.Weights.{weight_of}

unfoldable pub walk_weight : Weights → List ℕ → ℕ
walk_weight w [] = 0
walk_weight w (d ∷ ds) = weight_of w (dir_dim d) + walk_weight w ds
