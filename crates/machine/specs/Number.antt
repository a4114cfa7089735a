-- 'The machine': node numbers and coordinates.
use Rattle.std.specs.Prelude.{ℕ, ◌+◌, ◌*◌, ◌/◌, ◌%◌, ◌<◌}
use Rattle.shape.specs.declared.shape.Shape.{Shape}
use Rattle.shape.specs.declared.shape.Coords.{Coords}

unfoldable pub node_count : Shape → ℕ
node_count s = s.x * s.y * s.z

-- Node number = x + a × (y + b × z).
unfoldable pub number_of : Shape → Coords → ℕ
number_of s c = c.x + s.x * (c.y + s.y * c.z)

unfoldable pub coords_of : Shape → ℕ → Coords
coords_of s n = record { x = n % s.x; y = n / s.x % s.y; z = n / s.x / s.y }

-- Coordinates within the extents.
pub record Inside (s : Shape) (c : Coords) : Type 0 where
  pub x : c.x < s.x
  pub y : c.y < s.y
  pub z : c.z < s.z
