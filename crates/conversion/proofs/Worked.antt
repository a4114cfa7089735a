-- The worked sheets.
use mathlib.Core.Path.{refl}
use Rattle.sheet.specs.Bytes.{list_from}
use Rattle.sheet.specs.Head.{version, length_field, bytes_after, length_is}
use Rattle.shape.specs.Shape.{bad_extents, bad_wraps, shape_error}
use Rattle.shape.specs.Axis.{axis_hops, has_link}
use Rattle.machine.specs.Number.{node_count, coords_of}
use Rattle.machine.specs.Hop.{dir_dim, link}
use Rattle.machine.specs.Node.{is_node}
use Rattle.weights.specs.Weights.{bad_weights, weight_error}
use Rattle.plan.specs.Layout.{layout_of, shape_of, weights_by, fault_count, fault_at, faults_of}
use Rattle.plan.specs.Kinds.{kind_dim, kind_dir}
use Rattle.plan.specs.Checks.{fault_good, fault_key, faults_error, plan_error_by, fault_exists}
use Rattle.routes.specs.Kinds.{bits_of, refused_kind, from_old, via_kind, vias_kind, plain_kind}
use Rattle.routes.specs.Layout.{source, entry_count, kind_in, second_via}
use Rattle.routes.specs.Said.{mode_by, said_by}
use Rattle.routes.specs.Checks.{head_good, is_via, via_good, entry_good, next_good, entries_good, routes_good, good_in, error_in}
use Rattle.conversion.specs.Keeping.{odd_half_in, odd_half, leg_kept, legs_kept, answer_kept, entry_kept, all_kept, first_lost}
use Rattle.conversion.specs.Converting.{keep_error, lost_entry}
use Rattle.conversion.specs.Worked.{Worked}

pub worked : Worked
unfolding list_from version length_field bytes_after length_is bad_extents bad_wraps shape_error axis_hops has_link node_count coords_of dir_dim link is_node bad_weights weight_error layout_of shape_of weights_by fault_count fault_at faults_of kind_dim kind_dir fault_good fault_key faults_error plan_error_by fault_exists bits_of refused_kind from_old via_kind vias_kind plain_kind source entry_count kind_in second_via mode_by said_by head_good is_via via_good entry_good next_good entries_good routes_good good_in error_in odd_half_in odd_half leg_kept legs_kept answer_kept entry_kept all_kept first_lost keep_error lost_entry
worked = record {
  w_kept = refl;
  odd_lost = refl;
  even_kept = refl;
  from_via_kept = refl;
  from_via_lost = refl;
  adaptive_kept = refl;
  dead_kept = refl;
  none_lost = refl;
  named = refl;
}
