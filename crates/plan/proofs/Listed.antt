-- The faults of an accepted plan: each exists, and they rise strictly by node, then kind.
use Prim.Native.Nat.{ℕ, zero, suc, ◌+◌, ◌≤◌, ◌<◌}
use native.Mathlib.Omega.{arith}
use mathlib.Core.Path.{◌≡◌}
use mathlib.Core.Bool.{true, not}
use mathlib.Core.List.{List}
use lib.Dec.{ltb, leb}
use borrow.Author.Tests.{ltb-false, not-false}
use Rattle.numbers.specs.Numbers.{no_such_fault, fault_not_above}
use Rattle.theory.specs.Checks.{declined}
use Rattle.theory.proofs.Bools.{and_true}
use Rattle.theory.proofs.Checks.{then_zero, declined_zero}
use Rattle.theory.proofs.Cases.{by_order}
use Rattle.sheet.specs.Bytes.{list_from}
use Rattle.shape.specs.declared.shape.Shape.{Shape}
use Rattle.plan.specs.Layout.{layout_in, shape_of, fault_count, fault_at, faults_of}
use Rattle.plan.specs.Checks.{Limits, Rules, fault_good, fault_key, faults_error, plan_error_by}
use Rattle.plan.proofs.Plans.{accepted}

module _ (R : Rules) (last : ℕ) (m : Shape) (s : List ℕ) where
  -- The key of fault number i.
  abbrev key : ℕ → ℕ
  key i = fault_key (fault_at s i)

  -- The faults of which neither 7 nor 8 declines one: the first of them, and those after it.
  record First (least i n : ℕ) : Type 0 where
    here : fault_good R last m (fault_at s i) ≡ true
    above : least ≤ key i
    later : faults_error R last m (key i + 1) (list_from (fault_at s) (suc i) n) ≡ 0

  first : (least i n : ℕ) → faults_error R last m least (list_from (fault_at s) i (suc n)) ≡ 0 → First least i n
  unfolding faults_error list_from
  first least i n h =
      let good = fault_good R last m (fault_at s i) in
      let p = then_zero (declined (not good) no_such_fault) _ h in
      let q = then_zero (declined (ltb (key i) least) fault_not_above) _ p.1 in
      record {
        here = not-false _ (declined_zero (not good) 6 p.0);
        above = ltb-false (key i) least (declined_zero (ltb (key i) least) 7 q.0);
        later = q.1;
      }

  each : (n i least : ℕ) → faults_error R last m least (list_from (fault_at s) i n) ≡ 0 → (j : ℕ) → i ≤ j → j < i + n → (fault_good R last m (fault_at s j) ≡ true) × (least ≤ key j)
  each zero i least h j l k = absurd (omega arith)
  each (suc n) i least h j l k =
      let f = first least i n h in
      by_order i j
      (λ a. let e = each n (suc i) (key i + 1) f.later j (omega arith) (omega arith) in (e.0, omega (arith, f.above, e.1)))
      (λ a. rw (← a) (f.here, f.above))
      (λ a. absurd (omega arith))

  rise : (n i least : ℕ) → faults_error R last m least (list_from (fault_at s) i n) ≡ 0 → (j k : ℕ) → i ≤ j → j < k → k < i + n → key j < key k
  rise zero i least h j k l a b = absurd (omega arith)
  rise (suc n) i least h j k l a b =
      let f = first least i n h in
      by_order i j
      (λ c. rise n (suc i) (key i + 1) f.later j k (omega arith) a (omega arith))
      (λ c. let e = each n (suc i) (key i + 1) f.later k (omega arith) (omega arith) in rw (← c) (omega (arith, e.1)))
      (λ c. absurd (omega arith))

module _ (R : Rules) (L : Limits) (s : List ℕ) (h : plan_error_by R L s ≡ 0) where
  pub fault_exists_law : (j : ℕ) → j < fault_count s → R.fault_exists (shape_of s) (fault_at s j) ≡ true
  unfolding faults_of fault_good
  fault_exists_law j b =
      let last = (layout_in s).last_kind in
      let good = (each R last (shape_of s) s (fault_count s) 0 0 (accepted R L s h).faults j (omega arith) (omega arith)).0 in
      (and_true (leb (fault_at s j).kind last) _ good).1

  pub faults_rise : (j k : ℕ) → j < k → k < fault_count s → fault_key (fault_at s j) < fault_key (fault_at s k)
  unfolding faults_of
  faults_rise j k a b = rise R (layout_in s).last_kind (shape_of s) s (fault_count s) 0 0 (accepted R L s h).faults j k (omega arith) a (omega arith)
