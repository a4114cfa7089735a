-- A set of nodes as 256 rows of bits: bit x of row y + 16 × z is the node (x, y, z). So a plane is 16 rows side by side, and lower rows hold lower nodes.
use Rattle.std.specs.Prelude.{ℕ, ◌+◌, ◌*◌, Bool, ◌&&◌, List, get_or}
use Rattle.shape.specs.declared.shape.Shape.{Shape}
use Rattle.shape.specs.declared.shape.Coords.{Coords}
use Rattle.machine.specs.Number.{coords_of}
use Rattle.rows.specs.Bits.{bit}

-- The node at these coordinates is in the set whose rows begin at place `at` of a list.
unfoldable pub in_rows : List ℕ → ℕ → Coords → Bool
in_rows rows at c = bit (get_or rows (at + (c.y + 16 * c.z)) 0) c.x

-- Node n is in the set.
unfoldable pub in_set : Shape → List ℕ → ℕ → ℕ → Bool
in_set s rows at n = in_rows rows at (coords_of s n)

-- The node is in the product of three sets of places, the bits of bx, by and bz.
unfoldable pub in_product : ℕ → ℕ → ℕ → Coords → Bool
in_product bx by bz c = bit bx c.x && (bit by c.y && bit bz c.z)
