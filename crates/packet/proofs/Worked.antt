-- The worked lines hold.
use mathlib.Core.Path.{refl}
use Rattle.theory.specs.Machine.{dropped, allows}
use Rattle.theory.specs.Marks.{passed, begins, new_of}
use Rattle.theory.specs.Back.{last_leg, take_back, back}
use Rattle.shape.specs.Shape.{shape_error, bad_extents, bad_wraps}
use Rattle.shape.specs.Axis.{axis_hops, has_link, place, axis_useful}
use Rattle.shape.specs.Steps.{goes}
use Rattle.machine.specs.Number.{node_count, number_of, coords_of}
use Rattle.machine.specs.Hop.{dir_dim, opposite, neighbour, rule}
use Rattle.legs.specs.Between.{between, crosses, runs}
use Rattle.legs.specs.Crossing.{adaptive_along, adaptive_crosses, deterministic_along, deterministic_crosses, can_cross}
use Rattle.legs.specs.Backward.{against}
use Rattle.packet.specs.Packet.{legs_from, outside, bad_packet, packet_error}
use Rattle.packet.specs.Worked.{Worked}

pub worked : Worked
unfolding dropped allows passed begins new_of last_leg take_back back shape_error bad_extents bad_wraps axis_hops has_link place axis_useful goes node_count number_of coords_of dir_dim opposite neighbour rule between crosses runs adaptive_along adaptive_crosses deterministic_along deterministic_crosses can_cross against legs_from outside bad_packet packet_error
worked = record {
  via = refl;
  second = refl;
  arrived = refl;
  finished = refl;
  new = refl;
  above = refl;
  far = refl;
  to_itself = refl;
  itself = refl;
  again = refl;
  empty = refl;
  equal = refl;
  half_plus = refl;
  half_minus = refl;
  half_even = refl;
  half_odd = refl;
  off = refl;
  other = refl;
}
