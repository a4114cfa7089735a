-- How high the number can be with which a plan is declined.
use Prim.Native.Nat.{ℕ, zero, suc, ◌+◌, ◌≤◌}
use native.Mathlib.Omega.{arith}
use mathlib.Core.Bool.{Bool, true, false, not}
use mathlib.Core.List.{List, [], ◌∷◌}
use lib.ListN.{length}
use lib.Dec.{ltb}
use Rattle.numbers.specs.Numbers.{plan_short, plan_version_unknown, many_faults, wrong_length, extent_outside, wrong_wrap, no_such_fault, fault_not_above, weight_outside}
use Rattle.theory.specs.Checks.{declined, ◌then◌}
use Rattle.sheet.specs.Head.{length_is}
use Rattle.shape.specs.declared.shape.Shape.{Shape}
use Rattle.shape.specs.Shape.{bad_extents, bad_wraps, shape_error}
use Rattle.weights.specs.declared.weights.Weights.{Weights}
use Rattle.weights.specs.Weights.{bad_weights, weight_error}
use Rattle.plan.specs.declared.layout.Fault.{Fault}
use Rattle.plan.specs.Layout.{layout_in, size_after, shape_of, weights_of, fault_count, faults_of}
use Rattle.plan.specs.Checks.{Limits, most_faults, Rules, fault_good, fault_key, faults_error, plan_error_by, torus_plans, plan_error}

module _ (n : ℕ) where
  pub then_most : (e k : ℕ) → e ≤ n → k ≤ n → (e then k) ≤ n
  then_most zero k h g = g
  then_most (suc e) k h g = h

  pub check_most : (b : Bool) (e k : ℕ) → e ≤ n → k ≤ n → (declined b e then k) ≤ n
  check_most true zero k h g = g
  check_most true (suc e) k h g = h
  check_most false e k h g = g

  module _ (high : weight_outside ≤ n) (R : Rules) where
    weight_most : (w : Weights) → weight_error w ≤ n
    unfolding weight_error
    weight_most w = check_most (bad_weights w) weight_outside 0 (omega arith) (omega arith)

    faults_most : (last : ℕ) (m : Shape) (least : ℕ) (fs : List Fault) → faults_error R last m least fs ≤ n
    unfolding faults_error
    faults_most last m least [] = omega arith
    faults_most last m least (f ∷ fs) =
        check_most (not (fault_good R last m f)) no_such_fault _ (omega arith)
        (check_most (ltb (fault_key f) least) fault_not_above _ (omega arith) (faults_most last m (fault_key f + 1) fs))

    pub error_most : ((m : Shape) → R.shape_error m ≤ n) → (L : Limits) (p : List ℕ) → plan_error_by R L p ≤ n
    unfolding plan_error_by
    error_most shapes L p =
        check_most (ltb (length p) (layout_in p).head_size) plan_short _ (omega arith)
        (check_most (not (layout_in p).known) plan_version_unknown _ (omega arith)
        (check_most (ltb most_faults (fault_count p)) many_faults _ (omega arith)
        (check_most (not (length_is p (size_after (layout_in p) (fault_count p)))) wrong_length _ (omega arith)
        (then_most (R.shape_error (shape_of p)) _ (shapes (shape_of p))
        (then_most (weight_error (weights_of p)) _ (weight_most (weights_of p)) (faults_most (layout_in p).last_kind (shape_of p) 0 (faults_of p)))))))

shape_most : (m : Shape) → shape_error m ≤ weight_outside
unfolding shape_error
shape_most m = check_most 16 (bad_extents m) extent_outside _ (omega arith) (check_most 16 (bad_wraps m) wrong_wrap 0 (omega arith) (omega arith))

pub plan_most : (L : Limits) (p : List ℕ) → plan_error L p ≤ weight_outside
plan_most L p = error_most 16 (omega arith) torus_plans shape_most L p
