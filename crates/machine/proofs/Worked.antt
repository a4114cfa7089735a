-- Half a ring in numbers; and the laws on where the travel begins speak of walks that there are.
use mathlib.Core.Path.{refl}
use mathlib.Core.List.{[], ◌∷◌}
use Rattle.shape.specs.declared.shape.Dim.TheVariants.{X}
use Rattle.shape.specs.Shape.{shape_error, bad_extents, bad_wraps}
use Rattle.shape.specs.Axis.{axis_hops, has_link, place}
use Rattle.machine.specs.Number.{node_count, number_of, coords_of}
use Rattle.machine.specs.Hop.{dir_dim, link, neighbour, hops, useful, rule, toward, first_direction}
use Rattle.machine.specs.Torus.{allowed_by}
use Rattle.machine.specs.Begins.{Begins}
use Rattle.machine.specs.Worked.{ring_of, Worked}
use Rattle.machine.proofs.Begins.{half_begins}
use lib.Dec.{lit≤}

pub worked : Worked
unfolding axis_hops has_link place node_count number_of coords_of dir_dim link neighbour hops useful rule toward first_direction allowed_by
worked = record {
  even_4 = refl;
  odd_4 = refl;
  even_6 = refl;
  odd_6 = refl;
  even_16 = refl;
  odd_16 = refl;
  number_odd = refl;
  number_even = refl;
  walk_even = (refl, (refl, (refl, tt)));
  walk_odd = (refl, (refl, (refl, tt)));
  either_plus = (refl, (refl, (refl, tt)));
  either_minus = (refl, (refl, (refl, tt)));
}

-- The walk of three hops minus, from 1 to 4 round a ring of 6.
pub begins_worked : Begins rule (ring_of 6) 1 4 (1 ∷ 1 ∷ 1 ∷ []) X
unfolding shape_error bad_extents bad_wraps node_count
begins_worked = half_begins rule (ring_of 6) refl 4 (lit≤ tt) 1 (1 ∷ 1 ∷ 1 ∷ []) (lit≤ tt) worked.walk_odd X
