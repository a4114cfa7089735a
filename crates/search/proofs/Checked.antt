-- Whether a check passes, by its number.
use Prim.Native.Nat.{ℕ}
use native.Mathlib.Omega.{arith}
use mathlib.Core.Path.{◌≡◌, sym, ap}
use mathlib.Core.Bool.{true, false, true≢false}
use lib.Dec.{eqb}
use borrow.Author.Tests.{ne_eqb}
use Rattle.std.specs.Prelude.{Result, Ok, Err, is_ok, is_err}
use Rattle.numbers.specs.declared.Refusal.{Refusal}
use Rattle.numbers.specs.Refusals.{answer_number}
use Rattle.numbers.proofs.Refusals.{number-range}

module _ {A : Type 0} where
  pub ok_number : (r : Result A Refusal) (n : ℕ) → answer_number r ≡ n → is_ok r ≡ eqb n 0
  ok_number (Ok a) n e = ap (λ (k : ℕ). eqb k 0) e
  ok_number (Err e) n h = sym (ne_eqb n 0 (λ z. omega (arith, h, (number-range e).0)))

  pub passed_number : (r : Result A Refusal) (n : ℕ) → answer_number r ≡ n → is_err r ≡ false → n ≡ 0
  passed_number (Ok a) n h e = sym h
  passed_number (Err f) n h e = absurd (true≢false e)

  pub refused_number : (r : Result A Refusal) (n : ℕ) → answer_number r ≡ n → is_err r ≡ true → n ≡ 0 → ⊥
  refused_number (Ok a) n h t z = true≢false (sym t)
  refused_number (Err e) n h t z = omega (arith, h, (number-range e).0)
