-- Laws of checks in order.
use Prim.Native.Nat.{ℕ, zero, suc, ◌<◌}
use native.Mathlib.Nat.{suc-ne-zero}
use native.Mathlib.Omega.{arith}
use mathlib.Core.Path.{◌≡◌, refl, sym, ◌∙◌}
use mathlib.Core.Bool.{Bool, true, false, cond}
use Rattle.numbers.specs.declared.Refusal.{Refusal}
use Rattle.numbers.specs.Refusals.{number}
use Rattle.numbers.proofs.Refusals.{number-range, exit, answer-ok, answer-number, passes_by_number, declines_by_number}
use Rattle.theory.specs.Checks.{declined, ◌then◌}

-- A check and the checks after it, as a choice.
pub then_cond : (b : Bool) (n k : ℕ) → (declined b (suc n) then k) ≡ cond b (suc n) k
then_cond true n k = refl
then_cond false n k = refl

-- Where none declines, no cause holds.
pub then_zero : (e k : ℕ) → (e then k) ≡ 0 → (e ≡ 0) × (k ≡ 0)
then_zero zero k h = (refl, h)
then_zero (suc e) k h = absurd (suc-ne-zero e h)

pub declined_zero : (b : Bool) (n : ℕ) → declined b (suc n) ≡ 0 → b ≡ false
declined_zero true n h = absurd (suc-ne-zero n h)
declined_zero false n h = refl

-- A check that declines hides those after it; one that does not, leaves them.
pub declines : (e k : ℕ) → (e ≡ 0 → ⊥) → (e then k) ≡ e
declines zero k h = absurd (h refl)
declines (suc e) k h = refl

pub passes : (e k : ℕ) → e ≡ 0 → (e then k) ≡ k
passes e k h = rw h

-- Checks in order as the code makes them: `if bad { return Err(..); }`, or a check and `?`.
pub declined_here : (b : Bool) (n k : ℕ) → b ≡ true → 0 < n → (declined b n then k) ≡ n
declined_here b zero k h l = absurd (omega arith)
declined_here b (suc n) k h l = rw h

pub declined_later : (b : Bool) (n k : ℕ) → b ≡ false → (declined b n then k) ≡ k
declined_later b n k h = rw h

pub refused_here : (e : Refusal) (n k : ℕ) → number e ≡ n → (n then k) ≡ number e
refused_here e n k h = declines n k (let l = (number-range e).0 in omega arith) ∙ sym h

pub refused_later : (n k : ℕ) → 0 ≡ n → (n then k) ≡ k
refused_later n k h = rw (sym h)

-- `#[tactic(auto, using(theory::proofs::Checks::declining), unfolding(..))]`, with what the answer's number unfolds to, closes the goals of such a function.
pub ruleset declining = (exit, answer-number, answer-ok, passes_by_number, declines_by_number, declined_here, declined_later, refused_here, refused_later)
