-- Laws of a plan's checks, and what an accepted plan is: for any rules and limits.
use Prim.Native.Nat.{ℕ, zero, suc, ◌+◌, ◌*◌, ◌≤◌}
use native.Mathlib.Omega.{arith}
use mathlib.Core.Path.{◌≡◌, refl, sym, ap, ◌∙◌}
use mathlib.Core.Bool.{Bool, true, false, cond, not}
use mathlib.Core.List.{List}
use lib.ListN.{length}
use lib.Dec.{ltb}
use borrow.Author.Tests.{ltb-false, not-false}
use Rattle.numbers.specs.Numbers.{plan_short, plan_version_unknown, many_faults, wrong_length}
use Rattle.theory.specs.Checks.{declined, ◌then◌}
use Rattle.theory.proofs.Checks.{then_zero, declined_zero, declines, passes}
use Rattle.sheet.specs.Head.{version, length_field, length_is}
use Rattle.sheet.proofs.Heads.{length_field_law, length_sheet}
use Rattle.shape.specs.declared.shape.Shape.{Shape}
use Rattle.shape.proofs.Shapes.{count_most}
use Rattle.machine.specs.Number.{node_count}
use Rattle.weights.specs.Weights.{weight_error}
use Rattle.plan.specs.Layout.{layout_of, layout_in, size_after, shape_of, weights_of, fault_count, faults_of}
use Rattle.plan.specs.Checks.{Limits, large, most_faults, Rules, faults_error, plan_error_by, torus_plans, plan_error}
use Rattle.plan.specs.Steps.{head_error}

then_assoc : (a b c : ℕ) → ((a then b) then c) ≡ (a then (b then c))
then_assoc zero b c = refl
then_assoc (suc a) b c = refl

-- A check for what is not so, and the checks after it, as a choice.
pub unless_cond : (b : Bool) (n k : ℕ) → (declined (not b) (suc n) then k) ≡ cond b k (suc n)
unless_cond true n k = refl
unless_cond false n k = refl

module _ (R : Rules) (L : Limits) (s : List ℕ) where
  abbrev faults_left : Shape → ℕ
  faults_left m = faults_error R (layout_in s).last_kind m 0 (faults_of s)

  -- Checks 1 to 4, then the rest.
  pub in_order : plan_error_by R L s ≡ (head_error s then (R.shape_error (shape_of s) then (weight_error (weights_of s) then faults_left (shape_of s))))
  unfolding plan_error_by head_error
  in_order =
      let r = R.shape_error (shape_of s) then (weight_error (weights_of s) then faults_left (shape_of s)) in
      let a = declined (ltb (length s) (layout_in s).head_size) plan_short in
      let b = declined (not (layout_in s).known) plan_version_unknown in
      let d = declined (ltb most_faults (fault_count s)) many_faults in
      let e = declined (not (length_is s (size_after (layout_in s) (fault_count s)))) wrong_length in
      sym
      (then_assoc a (b then (d then (e then 0))) r
      ∙ ap (◌then◌ a) (then_assoc b (d then (e then 0)) r ∙ ap (◌then◌ b) (then_assoc d (e then 0) r ∙ ap (◌then◌ d) (then_assoc e 0 r))))

  pub head_refused : (e : ℕ) → e ≡ head_error s → (e ≡ 0 → ⊥) → e ≡ plan_error_by R L s
  head_refused e h n = h ∙ sym (in_order ∙ declines (head_error s) _ (λ z. n (h ∙ z)))

  module _ (h : head_error s ≡ 0) (m : Shape) (em : m ≡ shape_of s) where
    pub shape_refused : (e : ℕ) → e ≡ R.shape_error m → (e ≡ 0 → ⊥) → e ≡ plan_error_by R L s
    shape_refused e k n =
        let q : e ≡ R.shape_error (shape_of s) = k ∙ ap R.shape_error em in
        q ∙ sym (in_order ∙ passes (head_error s) _ h ∙ declines (R.shape_error (shape_of s)) _ (λ z. n (q ∙ z)))

    -- What is left where neither a check of the head nor of the shape declines.
    module _ (k : R.shape_error m ≡ 0) where
      weights_left : plan_error_by R L s ≡ (weight_error (weights_of s) then faults_left m)
      weights_left =
          let z : R.shape_error (shape_of s) ≡ 0 = sym (ap R.shape_error em) ∙ k in
          in_order ∙ passes (head_error s) _ h ∙ passes (R.shape_error (shape_of s)) _ z ∙ rw em

      pub weights_refused : (e : ℕ) → e ≡ weight_error (weights_of s) → (e ≡ 0 → ⊥) → e ≡ plan_error_by R L s
      weights_refused e q n = q ∙ sym (weights_left ∙ declines (weight_error (weights_of s)) _ (λ z. n (q ∙ z)))

      pub faults_left_law : (e : ℕ) → weight_error (weights_of s) ≡ 0 → e ≡ faults_left m → e ≡ plan_error_by R L s
      faults_left_law e w q = q ∙ sym (weights_left ∙ passes (weight_error (weights_of s)) _ w)

-- What checks 1 to 4 leave.
pub record Head (s : List ℕ) : Type 0 where
  pub long : (layout_in s).head_size ≤ length s
  pub known : (layout_in s).known ≡ true
  pub few : fault_count s ≤ most_faults
  pub field : length_field s ≡ size_after (layout_in s) (fault_count s)
  pub sized : length s ≡ (layout_in s).head_size + 3 * fault_count s

pub record Accepted (R : Rules) (s : List ℕ) : Type 0 where
  pub head : Head s
  pub shape : R.shape_error (shape_of s) ≡ 0
  pub weights : weight_error (weights_of s) ≡ 0
  pub faults : faults_error R (layout_in s).last_kind (shape_of s) 0 (faults_of s) ≡ 0

-- A head holds the version and the length field.
pub head_least : (v : ℕ) → 3 ≤ (layout_of v).head_size
unfolding layout_of
head_least v = omega arith

head_of : (s : List ℕ) → head_error s ≡ 0 → Head s
unfolding head_error
head_of s h =
    let at = (layout_in s).head_size in
    let n = fault_count s in
    let p = then_zero (declined (ltb (length s) at) plan_short) _ h in
    let q = then_zero (declined (not (layout_in s).known) plan_version_unknown) _ p.1 in
    let r = then_zero (declined (ltb most_faults n) many_faults) _ q.1 in
    let f = then_zero (declined (not (length_is s (size_after (layout_in s) n))) wrong_length) 0 r.1 in
    let long = ltb-false (length s) at (declined_zero (ltb (length s) at) 0 p.0) in
    let lent = not-false _ (declined_zero (not (length_is s (size_after (layout_in s) n))) 3 f.0) in
    let least = head_least (version s) in
    record {
      long = long;
      known = not-false _ (declined_zero (not (layout_in s).known) 1 q.0);
      few = ltb-false most_faults n (declined_zero (ltb most_faults n) 2 r.0);
      field = length_field_law s (size_after (layout_in s) n) lent;
      sized = omega (arith, length_sheet s (size_after (layout_in s) n) lent (omega arith));
    }

pub accepted : (R : Rules) (L : Limits) (s : List ℕ) → plan_error_by R L s ≡ 0 → Accepted R s
accepted R L s h =
    let p = then_zero (head_error s) _ (sym (in_order R L s) ∙ h) in
    let q = then_zero (R.shape_error (shape_of s)) _ p.1 in
    let w = then_zero (weight_error (weights_of s)) _ q.1 in
    record { head = head_of s p.0; shape = q.0; weights = w.0; faults = w.1 }

-- Nodes and faults of an accepted plan are within the limits.
pub record Within (L : Limits) (s : List ℕ) : Type 0 where
  pub nodes : node_count (shape_of s) ≤ L.nodes
  pub faults : fault_count s ≤ L.faults

pub within_large : (s : List ℕ) → plan_error large s ≡ 0 → Within large s
unfolding node_count
within_large s h = let a = accepted torus_plans large s h in record { nodes = count_most (shape_of s) a.shape; faults = a.head.few }
