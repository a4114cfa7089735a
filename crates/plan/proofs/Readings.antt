-- Laws of an accepted plan.
use Prim.Native.Nat.{ℕ}
use mathlib.Core.Path.{◌≡◌, sym, ◌∙◌}
use mathlib.Core.Bool.{true, false}
use mathlib.Core.List.{List}
use borrow.Author.Tests.{eq-eqb, ne_eqb}
use Rattle.plan.specs.Checks.{Limits, plan_error}
use Rattle.plan.specs.Reading.{is_plan}

module _ (L : Limits) (s : List ℕ) (e : ℕ) (h : e ≡ plan_error L s) where
  pub is_plan_law : e ≡ 0 → is_plan L s ≡ true
  unfolding is_plan
  is_plan_law z = eq-eqb (plan_error L s) 0 (sym h ∙ z)

  pub is_no_plan : (e ≡ 0 → ⊥) → is_plan L s ≡ false
  unfolding is_plan
  is_no_plan n = ne_eqb (plan_error L s) 0 (λ z. n (h ∙ z))
