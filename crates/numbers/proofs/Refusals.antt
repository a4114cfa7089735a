-- The numbers of causes and of answers.
use native.Mathlib.Omega.{arith}
use mathlib.Core.Path.{refl, sym, ap, ◌∙◌}
use borrow.Author.Tests.{eqb-true, ne_eqb}
use Rattle.std.specs.Prelude.{◌≡◌, ℕ, zero, suc, ◌<◌, ◌≤◌, true, not, eqb, Result, Ok, Err}
use Rattle.std.specs.Result.{IsErrAnd, is_ok, is_err}
use Rattle.std.proofs.lemmas.Bool.{agree_below_at}
use Rattle.std.proofs.lemmas.Result.{err_from_is_err_and}
use Rattle.numbers.specs.declared.Refusal.{Refusal}
use Rattle.numbers.specs.declared.Refusal.TheVariants.{PlanShort, PlanVersionUnknown, ManyFaults, WrongLength, ExtentOutside, WrongWrap, NoSuchFault, FaultNotAbove, NodeOutside, DeadEnd, NoClearChoice, OutputShort, WrongRouteSheet, WrongPacket, NotAllowed, WeightOutside, EntryNotKept, NotBack}
use Rattle.numbers.specs.Refusals.{number, refusal, answer, answer_number}

-- The number of a cause is one more than its place among all causes.
pub refusal-number : (e : Refusal) → refusal (number e) ≡ e
refusal-number PlanShort = refl
refusal-number PlanVersionUnknown = refl
refusal-number ManyFaults = refl
refusal-number WrongLength = refl
refusal-number ExtentOutside = refl
refusal-number WrongWrap = refl
refusal-number NoSuchFault = refl
refusal-number FaultNotAbove = refl
refusal-number NodeOutside = refl
refusal-number DeadEnd = refl
refusal-number NoClearChoice = refl
refusal-number OutputShort = refl
refusal-number WrongRouteSheet = refl
refusal-number WrongPacket = refl
refusal-number NotAllowed = refl
refusal-number WeightOutside = refl
refusal-number EntryNotKept = refl
refusal-number NotBack = refl

pub number-refusal : (n : ℕ) → 0 < n → n ≤ 18 → number (refusal n) ≡ n
number-refusal zero l h = absurd (omega arith)
number-refusal (suc n) l h = eqb-true _ _ (agree_below_at (λ k. eqb (number (refusal (suc k))) (suc k)) (λ _. true) 18 n refl (omega arith))

-- Two causes have two numbers, 1 to 18.
pub same-number : (e f : Refusal) → number e ≡ number f → e ≡ f
same-number e f h = sym (refusal-number e) ∙ ap refusal h ∙ refusal-number f

pub number-range : (e : Refusal) → (0 < number e) × (number e ≤ 18)
number-range PlanShort = (omega arith, omega arith)
number-range PlanVersionUnknown = (omega arith, omega arith)
number-range ManyFaults = (omega arith, omega arith)
number-range WrongLength = (omega arith, omega arith)
number-range ExtentOutside = (omega arith, omega arith)
number-range WrongWrap = (omega arith, omega arith)
number-range NoSuchFault = (omega arith, omega arith)
number-range FaultNotAbove = (omega arith, omega arith)
number-range NodeOutside = (omega arith, omega arith)
number-range DeadEnd = (omega arith, omega arith)
number-range NoClearChoice = (omega arith, omega arith)
number-range OutputShort = (omega arith, omega arith)
number-range WrongRouteSheet = (omega arith, omega arith)
number-range WrongPacket = (omega arith, omega arith)
number-range NotAllowed = (omega arith, omega arith)
number-range WeightOutside = (omega arith, omega arith)
number-range EntryNotKept = (omega arith, omega arith)
number-range NotBack = (omega arith, omega arith)

-- With the number of a cause an answer is that cause.
pub answer-number : {A : Type 0} (e : Refusal) (a : A) → answer (number e) a ≡ Err e
unfolding answer
answer-number PlanShort a = refl
answer-number PlanVersionUnknown a = refl
answer-number ManyFaults a = refl
answer-number WrongLength a = refl
answer-number ExtentOutside a = refl
answer-number WrongWrap a = refl
answer-number NoSuchFault a = refl
answer-number FaultNotAbove a = refl
answer-number NodeOutside a = refl
answer-number DeadEnd a = refl
answer-number NoClearChoice a = refl
answer-number OutputShort a = refl
answer-number WrongRouteSheet a = refl
answer-number WrongPacket a = refl
answer-number NotAllowed a = refl
answer-number WeightOutside a = refl
answer-number EntryNotKept a = refl
answer-number NotBack a = refl

pub answer-0 : {A : Type 0} (a : A) → answer 0 a ≡ Ok a
unfolding answer
answer-0 a = refl

pub answer-ok : {A : Type 0} (n : ℕ) (a : A) → 0 ≡ n → answer n a ≡ Ok a
answer-ok n a h = rw (sym h, answer-0 a)

-- Where a check passes or declines, so does an answer with its number.
pub passed : {A : Type 0} (n : ℕ) (a : A) → 0 ≡ n → Ok a ≡ answer n a
passed n a h = sym (answer-ok n a h)

pub refused : {A : Type 0} (n : ℕ) (e : Refusal) (a : A) → number e ≡ n → Err e ≡ answer n a
refused n e a h = rw (sym h, answer-number e a)

-- What the exit of a `?` returns.
pub exit : {A : Type 0} (r : Result A Refusal) (e : Refusal) → IsErrAnd r (λ y. y ≡ e) → r ≡ Err e
exit r e h = let p = err_from_is_err_and r h in p.1 ∙ ap Err p.2

-- Whether it passes, by the answer's number.
pub passes_by_number : {A : Type 0} (r : Result A Refusal) → is_ok r ≡ eqb (answer_number r) 0
passes_by_number (Ok a) = refl
passes_by_number (Err e) = sym (ne_eqb (number e) 0 (λ z. let l = (number-range e).0 in omega arith))

pub declines_by_number : {A : Type 0} (r : Result A Refusal) → is_err r ≡ not (eqb (answer_number r) 0)
declines_by_number (Ok a) = refl
declines_by_number (Err e) = sym (ap not (ne_eqb (number e) 0 (λ z. let l = (number-range e).0 in omega arith)))
