-- Machine W's plan is an accepted sheet.
use mathlib.Core.Path.{◌≡◌, refl}
use Rattle.shape.specs.Shape.{shape_error, bad_extents, bad_wraps}
use Rattle.shape.specs.Axis.{has_link}
use Rattle.machine.specs.Number.{node_count, coords_of}
use Rattle.machine.specs.Hop.{dir_dim, link}
use Rattle.machine.specs.Node.{is_node}
use Rattle.weights.specs.Weights.{bad_weights, weight_error}
use Rattle.sheet.specs.Bytes.{AreBytes, list_from}
use Rattle.sheet.specs.Head.{version, length_field, bytes_after, length_is}
use Rattle.sheet.proofs.Records.{are_bytes}
use Rattle.plan.specs.Layout.{layout_of, shape_of, weights_by, fault_count, fault_at, faults_of}
use Rattle.plan.specs.Kinds.{kind_dim, kind_dir}
use Rattle.plan.specs.Checks.{large, fault_good, fault_key, faults_error, plan_error_by, fault_exists, plan_error}
use Rattle.plan.specs.Worked.{W}

pub w_bytes : AreBytes W
w_bytes = are_bytes W refl

pub w_accepted : plan_error large W ≡ 0
unfolding plan_error_by layout_of version length_field bytes_after length_is shape_of weights_by bad_weights weight_error fault_count fault_at faults_of list_from faults_error fault_good fault_exists fault_key kind_dim kind_dir shape_error bad_extents bad_wraps is_node node_count coords_of link dir_dim has_link
w_accepted = refl
