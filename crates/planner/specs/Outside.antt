-- The code's own steps: the nodes in rising order, each, or those that are not in a set.
use Rattle.std.specs.Prelude.{ℕ, ◌+◌, ◌≤◌, ◌<◌, ◌≡◌, true, false, List}
use Rattle.shape.specs.declared.shape.Shape.{Shape}
use Rattle.shape.specs.declared.shape.Coords.{Coords}
use Rattle.machine.specs.Number.{number_of}
use Rattle.rows.specs.Rows.{in_set}
use Rattle.planner.specs.declared.outside.At.{At}

abbrev pub place_of : At → Coords
place_of at = record { x = at.x; y = at.y; z = at.z }

-- A node with its coordinates, or the place behind the last node of a row; behind the last node of all the node count, at (0, 0, extent of Z).
pub record Stands (s : Shape) (at : At) : Type 0 where
  pub node : at.node ≡ number_of s (place_of at)
  pub x : at.x ≤ s.x
  pub y : at.y < s.y
  pub z : at.z ≤ s.z
  pub end : at.z ≡ s.z → (at.x ≡ 0) × (at.y ≡ 0)

-- r is the next node; behind the last one where there is none.
pub record Following (s : Shape) (at r : At) : Type 0 where
  pub stands : Stands s r
  pub node : r.node ≡ at.node + 1
  pub inside : r.z < s.z → r.x < s.x

-- r is the first node from `at` on that is not in the set; behind the last one where there is none.
pub record NextOutside (s : Shape) (rows : List ℕ) (at r : At) : Type 0 where
  pub stands : Stands s r
  pub onward : at.node ≤ r.node
  pub skipped : (v : ℕ) → at.node ≤ v → v < r.node → in_set s rows 0 v ≡ true
  pub found : r.z < s.z → (r.x < s.x) × (in_set s rows 0 r.node ≡ false)
