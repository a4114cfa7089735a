-- 'When a call declines': the checks of a plan, 1 to 8 with 16 between 6 and 7, in the documents' order.
use Rattle.std.specs.Prelude.{ℕ, ◌+◌, ◌*◌, Bool, not, ◌&&◌, ◌||◌, List, [], ◌∷◌, length, ltb, leb}
use Rattle.numbers.specs.Numbers.{plan_short, plan_version_unknown, many_faults, wrong_length, no_such_fault, fault_not_above}
use Rattle.theory.specs.Checks.{declined, ◌then◌}
use Rattle.sheet.specs.Head.{length_is}
use Rattle.shape.specs.declared.shape.Shape.{Shape}
use Rattle.shape.specs.Shape.{shape_error}
use Rattle.weights.specs.Weights.{weight_error}
use Rattle.machine.specs.Node.{is_node}
use Rattle.machine.specs.Hop.{link}
use Rattle.plan.specs.declared.layout.Fault.{Fault}
use Rattle.plan.specs.Layout.{layout_in, size_after, shape_of, weights_of, fault_count, faults_of}
use Rattle.plan.specs.Kinds.{link_kind, node_kind, kind_dir}

-- What a caller can hold: nodes at most and faults at most. Every check of a plan takes the caller's limits. None reads them today: extents of at most
-- 16 and at most 256 faults, for every caller, keep each plan within `large`. A smaller caller's own number would be one more line of `plan_error_by`.
pub record Limits : Type 0 where
  pub nodes : ℕ
  pub faults : ℕ

abbrev pub large : Limits
large = record { nodes = 4096; faults = 256 }

abbrev pub most_faults : ℕ
most_faults = 256

-- What a machine asks of its plans: the checks of the shape, and which faults exist.
pub record Rules : Type 0 where
  pub shape_error : Shape → ℕ
  pub fault_exists : Shape → Fault → Bool

-- A fault's node, kind and link exist: the kind in this version, all three in this machine.
unfoldable pub fault_good : Rules → ℕ → Shape → Fault → Bool
fault_good R last_kind s f = leb f.kind last_kind && R.fault_exists s f

-- Faults rise strictly by node, then kind: by this number.
unfoldable pub fault_key : Fault → ℕ
fault_key f = f.node * 256 + f.kind

-- 7 before 8, fault by fault. The least key that a fault may have is one more than that of the one before, 0 for the first.
unfoldable pub faults_error : Rules → ℕ → Shape → ℕ → List Fault → ℕ
faults_error R last_kind s least [] = 0
faults_error R last_kind s least (f ∷ fs) =
    -- a fault's node, kind or link does not exist
    declined (not (fault_good R last_kind s f)) no_such_fault
    -- a fault not above the one before
    then declined (ltb (fault_key f) least) fault_not_above
    then faults_error R last_kind s (fault_key f + 1) fs

unfoldable pub plan_error_by : Rules → Limits → List ℕ → ℕ
plan_error_by R L s =
    -- plan sheet under 9 bytes, of version 2 under 12
    declined (ltb (length s) (layout_in s).head_size) plan_short
    -- plan version neither 1 nor 2
    then declined (not (layout_in s).known) plan_version_unknown
    -- fault count above 256
    then declined (ltb most_faults (fault_count s)) many_faults
    -- length field not the bytes that follow, or not 6 + 3 × count, of version 2 not 9 + 3 × count
    then declined (not (length_is s (size_after (layout_in s) (fault_count s)))) wrong_length
    -- an extent outside 1 to 16: 5; wrap on an extent below 3, or a spare wrap bit set: 6
    then R.shape_error (shape_of s)
    -- a weight outside 1 to 8: 16
    then weight_error (weights_of s)
    -- 7 and 8
    then faults_error R (layout_in s).last_kind (shape_of s) 0 (faults_of s)

-- ---- the plans of a torus or mesh
unfoldable pub fault_exists : Shape → Fault → Bool
fault_exists s f = is_node s f.node && (node_kind f.kind || link_kind f.kind && link s f.node (kind_dir f.kind))

abbrev pub torus_plans : Rules
torus_plans = record { shape_error = shape_error; fault_exists = fault_exists }

abbrev pub plan_error : Limits → List ℕ → ℕ
plan_error L s = plan_error_by torus_plans L s
