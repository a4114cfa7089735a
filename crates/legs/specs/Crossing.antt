-- Which legs can cross the link that leaves a node u in a direction, of nodes by their coordinates: a leg from a to t, dimension by dimension.
use Rattle.std.specs.Prelude.{ℕ, Bool, cond, ◌&&◌, leb, eqb}
use Rattle.shape.specs.declared.shape.Shape.{Shape}
use Rattle.shape.specs.declared.shape.Coords.{Coords}
use Rattle.shape.specs.declared.shape.Dim.{Dim}
use Rattle.shape.specs.declared.shape.Dim.TheVariants.{X, Y, Z}
use Rattle.shape.specs.Shape.{extent_of, wrapped_in, coord_of, same_dim, before_dim}
use Rattle.machine.specs.declared.leg.Mode.{Mode}
use Rattle.machine.specs.declared.leg.Mode.TheVariants.{Adaptive, Deterministic}
use Rattle.machine.specs.Hop.{dir_dim, dir_plus}
use Rattle.legs.specs.Between.{between, crosses, runs}

-- An adaptive leg: u lies between the ends in each other dimension, and in the link's own the link is on a shortest way.
unfoldable pub adaptive_along : Shape → Coords → ℕ → Coords → Coords → Dim → Bool
adaptive_along s u dir a t d =
    cond (same_dim (dir_dim dir) d)
    (crosses (extent_of s d) (wrapped_in s d) (dir_plus dir) (coord_of u d) (coord_of a d) (coord_of t d))
    (between (extent_of s d) (wrapped_in s d) (coord_of u d) (coord_of a d) (coord_of t d))

unfoldable pub adaptive_crosses : Shape → Coords → ℕ → Coords → Coords → Bool
adaptive_crosses s u dir a t = leb dir 5 && (adaptive_along s u dir a t X && (adaptive_along s u dir a t Y && adaptive_along s u dir a t Z))

-- A deterministic leg runs along X, then Y, then Z: u is at the target's place in the dimensions before the link's own, at the start's in those behind
-- it, and in its own the one way takes the link.
unfoldable pub deterministic_along : (ℕ → Bool) → Shape → Coords → ℕ → Coords → Coords → Dim → Bool
deterministic_along ties s u dir a t d =
    cond (same_dim (dir_dim dir) d)
    (runs ties (extent_of s d) (wrapped_in s d) (dir_plus dir) (coord_of u d) (coord_of a d) (coord_of t d))
    (cond (before_dim d (dir_dim dir)) (eqb (coord_of u d) (coord_of t d)) (eqb (coord_of u d) (coord_of a d)))

unfoldable pub deterministic_crosses : (ℕ → Bool) → Shape → Coords → ℕ → Coords → Coords → Bool
deterministic_crosses ties s u dir a t =
    leb dir 5 && (deterministic_along ties s u dir a t X && (deterministic_along ties s u dir a t Y && deterministic_along ties s u dir a t Z))

-- Some walk of the leg from a to t in mode m crosses the link.
unfoldable pub can_cross : (ℕ → Bool) → Mode → Shape → Coords → ℕ → Coords → Coords → Bool
can_cross ties Adaptive s u dir a t = adaptive_crosses s u dir a t
can_cross ties Deterministic s u dir a t = deterministic_crosses ties s u dir a t
