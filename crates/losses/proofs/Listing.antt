-- The list of losses, fault by fault.
use Prim.Native.Nat.{ℕ, ◌+◌, ◌≤◌, ◌<◌}
use Rattle.std.specs.Prelude.{Result, Ok, Err, is_err, [], take}
use Rattle.std.proofs.lemmas.List.{length-take-le, get_or-take}
use native.Mathlib.Omega.{arith}
use native.Mathlib.Decide.{ℕ_discrete}
use mathlib.Core.Path.{◌≡◌, refl, sym, ◌∙◌}
use mathlib.Core.Bool.{true, false}
use mathlib.Core.List.{List}
use lib.ListN.{get_or, set, length, length-set, replicate}
use lib.Seq.{get_or-set_same, get_or-set_other}
use Rattle.numbers.specs.declared.Refusal.{Refusal}
use Rattle.numbers.specs.Refusals.{answer_number}
use Rattle.numbers.proofs.Refusals.{number-range}
use Rattle.shape.specs.declared.shape.Shape.{Shape}
use Rattle.plan.specs.declared.layout.Fault.{Fault}
use Rattle.plan.specs.Layout.{shape_of, fault_count, fault_at}
use Rattle.plan.specs.Checks.{large, torus_plans, fault_exists, plan_error}
use Rattle.plan.proofs.Plans.{within_large}
use Rattle.plan.proofs.Listed.{fault_exists_law}
use Rattle.plan.proofs.Readings.{is_plan_law, is_no_plan}
use Rattle.losses.specs.OfPlan.{word_of, AreLosses}

-- The loop: the words of the first i faults of n are there.
pub record Listing (p : List ℕ) (s : Shape) (n : ℕ) (words : List ℕ) (i : ℕ) : Type 0 where
  pub plan : plan_error large p ≡ 0
  pub shape : s ≡ shape_of p
  pub count : n ≡ fault_count p
  pub within : i ≤ n
  pub long : length words ≡ 256
  pub each : (k : ℕ) → k < i → get_or words k 0 ≡ word_of (shape_of p) (fault_at p k)

module _ (p : List ℕ) (s : Shape) (n : ℕ) where
  pub begin : plan_error large p ≡ 0 → s ≡ shape_of p → n ≡ fault_count p → Listing p s n (replicate 256 0) 0
  begin h es en = record { plan = h; shape = es; count = en; within = omega arith; long = refl; each = λ k l. absurd (omega arith) }

  module _ (words : List ℕ) (i : ℕ) (g : Listing p s n words i) where
    pub few : n ≤ 256
    few = omega (arith, g.count, (within_large p g.plan).faults)

    pub exists : (f : Fault) → f ≡ fault_at p i → i < n → fault_exists s f ≡ true
    exists f e l = rw (e, g.shape) (fault_exists_law torus_plans large p g.plan i (omega (arith, g.count)))

    pub onward : (f : Fault) (w : ℕ) → f ≡ fault_at p i → w ≡ word_of s f → i < n → Listing p s n (set words i w) (i + 1)
    onward f w e q l = record {
      plan = g.plan;
      shape = g.shape;
      count = g.count;
      within = omega arith;
      long = length-set words i w ∙ g.long;
      each = λ k a. at k a (ℕ_discrete k i);
    }
      where
        at : (k : ℕ) → k < i + 1 → Dec (k ≡ i) → get_or (set words i w) k 0 ≡ word_of (shape_of p) (fault_at p k)
        at k a (yes b) = rw (b, get_or-set_same words i w 0 (omega (arith, g.long, few))) (q ∙ rw (e, g.shape))
        at k a (no b) = rw (get_or-set_other words i k w 0 b) (g.each k (omega (arith, a, b)))

    pub ended : n ≤ i → AreLosses p (take n words) (length (take n words))
    ended l = rw (length-take-le n words (omega (arith, g.long, few))) (record {
      counted = g.count ∙ rw (is_plan_law large p (plan_error large p) refl g.plan);
      few = few;
      each = λ k a. get_or-take n words k 0 a ∙ g.each k (omega arith);
    })

-- A check that declines answers with a number above 0, and one that passes with 0.
declines : {A : Type 0} (r : Result A Refusal) → is_err r ≡ true → answer_number r ≡ 0 → ⊥
declines (Ok a) e z = cc
declines (Err d) e z = absurd (omega (arith, number-range d))

passes : {A : Type 0} (r : Result A Refusal) → is_err r ≡ false → answer_number r ≡ 0
passes (Ok a) e = refl
passes (Err d) e = cc

-- A sheet that a check declines has none.
pub none_of : {A : Type 0} (p : List ℕ) (r : Result A Refusal) → answer_number r ≡ plan_error large p → is_err r ≡ true → AreLosses p [] 0
none_of p r h n = record { counted = rw (is_no_plan large p (answer_number r) h (declines r n)); few = omega arith; each = λ k a. absurd (omega arith) }

pub plan_of : {A : Type 0} (p : List ℕ) (r : Result A Refusal) → answer_number r ≡ plan_error large p → is_err r ≡ false → plan_error large p ≡ 0
plan_of p r h n = sym h ∙ passes r n
