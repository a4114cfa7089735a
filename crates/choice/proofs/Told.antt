-- Refusals: an outcome, and the answer that it tells.
use Prim.Native.Nat.{ℕ, zero, suc, ◌-◌, ◌<◌}
use native.Mathlib.Omega.{arith}
use lib.ListN.{get_or-eq_default}
use mathlib.Core.Path.{◌≡◌, refl, sym}
use mathlib.Core.Bool.{Bool, true, ◌&&◌, ◌||◌}
use lib.Dec.{eqb}
use borrow.Author.Tests.{eqb-true, ne_eqb}
use Rattle.numbers.specs.declared.Refusal.{Refusal}
use Rattle.numbers.specs.declared.Refusal.TheVariants.{PlanShort}
use Rattle.numbers.specs.Refusals.{number, refusal, causes}
use Rattle.numbers.proofs.Refusals.{refusal-number, number-range}
use Rattle.theory.proofs.Bools.{and_true}
use Rattle.theory.proofs.Cases.{by_le}
use Rattle.choice.specs.declared.outcome.Outcome.{Outcome}
use Rattle.choice.specs.Answer.{Answer, Refused, answered}
use Rattle.choice.specs.Outcome.{told, told_as}

-- The numbers of causes are those from 1 to 18; any other reads as the first.
all_to : (ℕ → Bool) → ℕ → Bool
all_to f zero = true
all_to f (suc n) = f n && all_to f n

all_below : (f : ℕ → Bool) (n : ℕ) → all_to f n ≡ true → (k : ℕ) → k < n → f k ≡ true
unfolding all_to
all_below f zero e k l = absurd (omega arith)
all_below f (suc n) e k l =
    let both = and_true (f n) _ e in
    by_le n k (λ h. let q : k ≡ n = omega arith in rw q both.0) (λ h. all_below f n both.1 k h)

abbrev numbered : ℕ → Bool
numbered n = eqb n 0 || eqb (number (refusal n)) n

all_numbered : all_to numbered 19 ≡ true
unfolding all_to
all_numbered = refl

pub number-refusal : (n : ℕ) → 0 < n → n < 19 → number (refusal n) ≡ n
number-refusal n a b =
    let t = all_below numbered 19 all_numbered n b in
    eqb-true (number (refusal n)) n (rw (ne_eqb n 0 (λ z. omega arith)) at t)

pub refusal_past : (n : ℕ) → 18 < n → refusal n ≡ PlanShort
refusal_past n h = get_or-eq_default causes PlanShort {n = n - 1} (omega arith)

pub answered_refused : (e : Refusal) (n : ℕ) (a : Answer) → number e ≡ n → answered n a ≡ Refused n
unfolding answered
answered_refused e zero a h = let l = (number-range e).0 in absurd (omega arith)
answered_refused e (suc n) a h = refl

-- A refusal tells an answer with its number.
pub refused-told : (far : ℕ → ℕ → ℕ) (S n : ℕ) (e : Refusal) → number e ≡ n → Outcome.Refused e ≡ told far S (Refused n)
unfolding told
refused-told far S n e h = rw (sym h, refusal-number e)

pub refused-told_as : (len n : ℕ) (e : Refusal) → number e ≡ n → Outcome.Refused e ≡ told_as len (Refused n)
unfolding told_as
refused-told_as len n e h = rw (sym h, refusal-number e)
