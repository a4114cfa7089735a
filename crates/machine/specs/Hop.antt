-- Directions, links, the hops between nodes and useful hops, of nodes by their numbers.
use Rattle.std.specs.Prelude.{ℕ, ◌+◌, ◌-◌, ◌%◌, Bool, true, false, cond, not, ◌&&◌, ltb, leb, eqb}
use Rattle.shape.specs.declared.shape.Shape.{Shape}
use Rattle.shape.specs.declared.shape.Dim.{Dim}
use Rattle.shape.specs.declared.shape.Dim.TheVariants.{X, Y, Z}
use Rattle.shape.specs.Shape.{extent_of, wrapped_in, coord_of, put}
use Rattle.machine.specs.Number.{number_of, coords_of}
use Rattle.shape.specs.Axis.{axis_hops, has_link, place}

-- Directions: 0 X+, 1 X-, 2 Y+, 3 Y-, 4 Z+, 5 Z-.
abbrev pub plus_dir : Dim → ℕ
plus_dir X = 0
plus_dir Y = 2
plus_dir Z = 4

abbrev pub minus_dir : Dim → ℕ
minus_dir X = 1
minus_dir Y = 3
minus_dir Z = 5

abbrev pub dir_of : Dim → Bool → ℕ
dir_of d plus = cond plus (plus_dir d) (minus_dir d)

abbrev pub pick_dim : Bool → Dim → Dim → Dim
pick_dim true a b = a
pick_dim false a b = b

unfoldable pub dir_dim : ℕ → Dim
dir_dim dir = pick_dim (ltb dir 2) X (pick_dim (ltb dir 4) Y Z)

abbrev pub dir_plus : ℕ → Bool
dir_plus dir = eqb (dir % 2) 0

-- The direction back over the same link.
unfoldable pub opposite : ℕ → ℕ
opposite dir = cond (dir_plus dir) (dir + 1) (dir - 1)

-- The coordinate of node n in dimension d.
abbrev pub along : Shape → ℕ → Dim → ℕ
along s n d = coord_of (coords_of s n) d

-- A link leaves node n in this direction.
unfoldable pub link : Shape → ℕ → ℕ → Bool
link s n dir =
    let d = dir_dim dir in
    leb dir 5 && has_link (extent_of s d) (wrapped_in s d) (along s n d) (dir_plus dir)

-- The node at the other end of that link.
unfoldable pub neighbour : Shape → ℕ → ℕ → ℕ
neighbour s n dir =
    let d = dir_dim dir in
    number_of s (put (coords_of s n) d (place (extent_of s d) (along s n d) (dir_plus dir)))

-- Hops from one node to another: the sum over dimensions. This is document 01's distance, without weights.
abbrev pub part : Shape → ℕ → ℕ → Dim → ℕ
part s n t d = axis_hops (extent_of s d) (wrapped_in s d) (along s n d) (along s t d)

unfoldable pub hops : Shape → ℕ → ℕ → ℕ
hops s n t = part s n t X + part s n t Y + part s n t Z

-- A hop is useful toward a target if it lowers that by one. Useful hops stay those of document 01, whatever the weights.
unfoldable pub useful : Shape → ℕ → ℕ → ℕ → Bool
useful s n t dir = link s n dir && eqb (hops s (neighbour s n dir) t + 1) (hops s n t)

-- Exactly half of a wrapped ring is left in dimension d: there both directions are useful, and nowhere else (`half_is`, `is_half` of proofs/Laws.antt).
abbrev pub half : Shape → ℕ → ℕ → Dim → Bool
half s n t d = useful s n t (plus_dir d) && useful s n t (minus_dir d)

-- The rule for half a ring that is in force: plus from an even coordinate, minus from an odd one. What follows takes any rule, `ties`: whether half a
-- ring goes plus from a coordinate.
unfoldable pub rule : ℕ → Bool
rule p = eqb (p % 2) 0

-- In the useful direction of a dimension; at half a ring by the rule, from the node's coordinate in that dimension. It is the place where that dimension's
-- travel begins: specs/Begins.antt.
unfoldable pub toward : (ℕ → Bool) → Shape → ℕ → ℕ → Dim → ℕ
toward ties s n t d = dir_of d (cond (half s n t d) (ties (along s n d)) (useful s n t (plus_dir d)))

abbrev pub same : Shape → ℕ → ℕ → Dim → Bool
same s n t d = eqb (along s n d) (along s t d)

-- A deterministic leg takes the first dimension of X, Y, Z where the coordinates differ, of the directions `way`; 6, no direction, where none does.
abbrev pub first_of : (Dim → ℕ) → Shape → ℕ → ℕ → ℕ
first_of way s n t = cond (not (same s n t X)) (way X) (cond (not (same s n t Y)) (way Y) (cond (not (same s n t Z)) (way Z) 6))

unfoldable pub first_direction : (ℕ → Bool) → Shape → ℕ → ℕ → ℕ
first_direction ties s n t = first_of (toward ties s n t) s n t
