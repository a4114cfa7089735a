-- The first check that declines: of a pair, a source, a run.
use Prim.Native.Nat.{ℕ, zero, suc}
use mathlib.Core.Path.{◌≡◌, refl, sym, ◌∙◌}
use mathlib.Core.Bool.{Bool, true, false, not, ◌&&◌, ◌||◌}
use mathlib.Core.List.{List}
use lib.Dec.{eqb}
use Rattle.numbers.specs.Numbers.{node_outside, dead_end}
use Rattle.theory.specs.Checks.{declined, ◌then◌}
use Rattle.theory.proofs.Checks.{declines}
use Rattle.shape.specs.declared.shape.Shape.{Shape}
use Rattle.machine.specs.Node.{is_node}
use Rattle.plan.specs.Layout.{shape_of, faults_of}
use Rattle.plan.specs.Checks.{large, plan_error}
use Rattle.plan.specs.Reading.{is_plan}
use Rattle.dead.specs.Dead.{dead_node, node_answer}
use Rattle.choice.specs.Pair.{pair_error}
use Rattle.planned_sheet.specs.Sheet.{source_error}
use Rattle.planner.specs.Run.{run_error}
use Rattle.planner.specs.Steps.{first_error}

-- The checks of the ends by themselves.
pub unknown : (known dead : Bool) → known ≡ false → node_outside ≡ first_error 0 known dead
unfolding first_error
unknown known dead e = rw e refl

pub lifeless : (known dead : Bool) → known ≡ true → dead ≡ true → dead_end ≡ first_error 0 known dead
unfolding first_error
lifeless known dead e d = rw (e, d) refl

pub sound_ends : (known dead : Bool) → known ≡ true → dead ≡ false → 0 ≡ first_error 0 known dead
unfolding first_error
sound_ends known dead e d = rw (e, d) refl

-- A plan that a check declines.
pub plan_declined : (e n : ℕ) (x : ℕ) → (n ≡ 0 → ⊥) → n ≡ e → n ≡ (e then x)
plan_declined e n x ne h = h ∙ sym (declines e x (λ z. ne (h ∙ z)))

pub source_declined : (p : List ℕ) (S n : ℕ) → (n ≡ 0 → ⊥) → n ≡ plan_error large p → n ≡ source_error large p S
unfolding source_error
source_declined p S n ne h = plan_declined _ n _ ne h

pub pair_declined : (p : List ℕ) (S D n : ℕ) → (n ≡ 0 → ⊥) → n ≡ plan_error large p → n ≡ pair_error large p S D
unfolding pair_error
pair_declined p S D n ne h = plan_declined _ n _ ne h

pub run_declined : (p : List ℕ) (from n : ℕ) → (n ≡ 0 → ⊥) → n ≡ plan_error large p → n ≡ run_error p from
unfolding run_error
run_declined p from n ne h = plan_declined _ n _ ne h

module _ (p : List ℕ) (s : Shape) (es : s ≡ shape_of p) (e : ℕ) (ee : e ≡ plan_error large p) (known dead : Bool) (r : ℕ) (er : r ≡ first_error e known dead) where
  -- A node is answered to be dead of an accepted plan alone.
  dead_if : (n : ℕ) → node_answer large p n ≡ (eqb e 0 && dead_node (faults_of p) n)
  unfolding is_plan
  dead_if n = rw ee

  pub pair_error_law :
      (S D : ℕ) (a b c d : Bool) → a ≡ is_node s S → b ≡ is_node s D → known ≡ (a && b) → c ≡ node_answer large p S → d ≡ node_answer large p D → dead ≡ (c || d) → r ≡ pair_error large p S D
  unfolding pair_error first_error
  pair_error_law S D a b c d ea eb ek ec ed eD = er ∙ rw (ek, eD, ec ∙ dead_if S, ed ∙ dead_if D, ea, eb, es, sym ee) (by_error e (is_node (shape_of p) S) (is_node (shape_of p) D) (dead_node (faults_of p) S) (dead_node (faults_of p) D))
    where
      by_error :
          (e : ℕ) (a b c d : Bool) → (e then declined (not (a && b)) node_outside then declined ((eqb e 0 && c) || (eqb e 0 && d)) dead_end then 0)
          ≡ (e then declined (not a || not b) node_outside then declined (c || d) dead_end then 0)
      by_error zero true b c d = refl
      by_error zero false b c d = refl
      by_error (suc e) a b c d = refl

  pub source_error_law : (S : ℕ) → known ≡ is_node s S → dead ≡ node_answer large p S → r ≡ source_error large p S
  unfolding source_error first_error
  source_error_law S ek ed = er ∙ rw (ek, ed ∙ dead_if S, es, sym ee) (by_error e (is_node (shape_of p) S) (dead_node (faults_of p) S))
    where
      by_error : (e : ℕ) (a b : Bool) → (e then declined (not a) node_outside then declined (eqb e 0 && b) dead_end then 0) ≡ (e then declined (not a) node_outside then declined b dead_end then 0)
      by_error zero a b = refl
      by_error (suc e) a b = refl

  pub run_error_law : (from : ℕ) → known ≡ is_node s from → dead ≡ false → r ≡ run_error p from
  unfolding run_error first_error
  run_error_law from ek ed = er ∙ rw (ek, ed, es, sym ee)
