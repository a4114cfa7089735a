-- The code's own steps: hops by coordinates, of any coordinates, also outside the shape.
use Rattle.std.specs.Prelude.{ℕ, ◌+◌, ◌/◌, Bool, cond, not, ◌&&◌, leb, eqb}
use Rattle.shape.specs.declared.shape.Shape.{Shape}
use Rattle.shape.specs.declared.shape.Coords.{Coords}
use Rattle.shape.specs.declared.shape.Dim.{Dim}
use Rattle.shape.specs.declared.shape.Dim.TheVariants.{X, Y, Z}
use Rattle.machine.specs.declared.leg.Mode.{Mode}
use Rattle.machine.specs.declared.leg.Mode.TheVariants.{Adaptive, Deterministic}
use Rattle.shape.specs.Shape.{extent_of, wrapped_in, coord_of, put}
use Rattle.shape.specs.Axis.{axis_hops, has_link, place, axis_useful}
use Rattle.shape.specs.Steps.{goes}
use Rattle.machine.specs.Hop.{dir_dim, dir_plus, dir_of}

-- One of three values, by the dimension of a direction.
abbrev pub in_dim : ℕ → ℕ → ℕ → ℕ → ℕ
in_dim dir x y z = cond (eqb (dir / 2) 0) x (cond (eqb (dir / 2) 1) y z)

abbrev pub hops_along : Shape → Coords → Coords → Dim → ℕ
hops_along s c t d = axis_hops (extent_of s d) (wrapped_in s d) (coord_of c d) (coord_of t d)

abbrev pub link_along : Shape → Coords → Dim → Bool → Bool
link_along s c d plus = has_link (extent_of s d) (wrapped_in s d) (coord_of c d) plus

abbrev pub moved_along : Shape → Coords → Dim → Bool → Coords
moved_along s c d plus = put c d (place (extent_of s d) (coord_of c d) plus)

abbrev pub useful_along : Shape → Coords → Coords → Dim → Bool → Bool
useful_along s c t d plus = axis_useful (extent_of s d) (wrapped_in s d) (coord_of c d) (coord_of t d) plus

unfoldable pub hops_at : Shape → Coords → Coords → ℕ
hops_at s c t = hops_along s c t X + hops_along s c t Y + hops_along s c t Z

unfoldable pub link_at : Shape → Coords → ℕ → Bool
link_at s c dir = leb dir 5 && link_along s c (dir_dim dir) (dir_plus dir)

unfoldable pub moved_at : Shape → Coords → ℕ → Coords
moved_at s c dir = moved_along s c (dir_dim dir) (dir_plus dir)

unfoldable pub useful_at : Shape → Coords → Coords → ℕ → Bool
useful_at s c t dir = leb dir 5 && useful_along s c t (dir_dim dir) (dir_plus dir)

-- With any rule for half a ring: a deterministic leg goes plus along a dimension, its direction there, and its direction.
abbrev pub goes_along : (ℕ → Bool) → Shape → Coords → Coords → Dim → Bool
goes_along ties s c t d = goes ties (extent_of s d) (wrapped_in s d) (coord_of c d) (coord_of t d)

abbrev pub toward_at : (ℕ → Bool) → Shape → Coords → Coords → Dim → ℕ
toward_at ties s c t d = dir_of d (goes_along ties s c t d)

unfoldable pub first_at : (ℕ → Bool) → Shape → Coords → Coords → ℕ
first_at ties s c t =
    cond (not (eqb c.x t.x)) (toward_at ties s c t X)
    (cond (not (eqb c.y t.y)) (toward_at ties s c t Y)
    (cond (not (eqb c.z t.z)) (toward_at ties s c t Z) 6))

unfoldable pub allowed_at : (ℕ → Bool) → Mode → Shape → Coords → Coords → ℕ → Bool
allowed_at ties Adaptive s c t dir = useful_at s c t dir
allowed_at ties Deterministic s c t dir = leb dir 5 && eqb dir (first_at ties s c t)
