-- What is answered of nodes, for every shape and every number.
use Rattle.std.specs.Prelude.{ℕ, Bool, cond, ◌&&◌, ltb, eqb}
use Rattle.shape.specs.declared.shape.Shape.{Shape}
use Rattle.shape.specs.declared.shape.Coords.{Coords}
use Rattle.shape.specs.Shape.{shape_error}
use Rattle.machine.specs.Number.{node_count, coords_of}
use Rattle.machine.specs.Hop.{link, neighbour}

-- The number is a node's, of a shape that no check declines.
unfoldable pub is_node : Shape → ℕ → Bool
is_node s n = eqb (shape_error s) 0 && ltb n (node_count s)

unfoldable pub are_pair : Shape → ℕ → ℕ → Bool
are_pair s n t = is_node s n && is_node s t

abbrev pub count_answer : Shape → ℕ
count_answer s = cond (eqb (shape_error s) 0) (node_count s) 0

abbrev pub coords_answer : Shape → ℕ → Coords
coords_answer s n = cond (is_node s n) (coords_of s n) (record { x = 0; y = 0; z = 0 })

abbrev pub link_answer : Shape → ℕ → ℕ → Bool
link_answer s n dir = is_node s n && link s n dir

abbrev pub neighbour_answer : Shape → ℕ → ℕ → ℕ
neighbour_answer s n dir = cond (is_node s n) (neighbour s n dir) 0
