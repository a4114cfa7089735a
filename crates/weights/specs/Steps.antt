-- The code's own steps: distance by coordinates, of any coordinates, also outside the shape.
use Rattle.std.specs.Prelude.{ℕ, ◌+◌, ◌*◌, ◌%◌}
use Rattle.shape.specs.declared.shape.Shape.{Shape}
use Rattle.shape.specs.declared.shape.Coords.{Coords}
use Rattle.shape.specs.declared.shape.Dim.{Dim}
use Rattle.shape.specs.declared.shape.Dim.TheVariants.{X, Y, Z}
use Rattle.machine.specs.ByCoords.{hops_along}
use Rattle.weights.specs.declared.weights.Weights.{Weights}
use Rattle.weights.specs.Weights.{weight_of}

abbrev pub weighed_along : Weights → Shape → Coords → Coords → Dim → ℕ
weighed_along w s c t d = weight_of w d * hops_along s c t d

unfoldable pub distance_at : Weights → Shape → Coords → Coords → ℕ
distance_at w s c t = weighed_along w s c t X + weighed_along w s c t Y + weighed_along w s c t Z

-- In a word of 16 bits.
unfoldable pub distance_word : Weights → Shape → Coords → Coords → ℕ
distance_word w s c t = distance_at w s c t % 65536
