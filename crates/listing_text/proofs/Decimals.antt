-- The digits of a number.
use Prim.Native.Nat.{ℕ, zero, suc, ◌/◌, ◌%◌, ◌≤◌, ◌<◌}
use native.Mathlib.Omega.{arith}
use mathlib.Core.Path.{◌≡◌, ap, ◌∙◌}
use mathlib.Core.List.{[], ◌∷◌, ◌++◌}
use lib.ListN.{length, length-append}
use borrow.Author.Tests.{lt-ltb, le-ltb}
use Rattle.theory.proofs.Cases.{by_le}
use Rattle.listing_text.specs.Decimal.{digit, digits, decimal}

-- More than enough steps change nothing.
enough : (k m n : ℕ) → n < k → n < m → digits k n ≡ digits m n
unfolding digits
enough zero m n h g = absurd (omega arith)
enough (suc k) zero n h g = absurd (omega arith)
enough (suc k) (suc m) n h g =
    by_le 10 n
    (λ b. rw (le-ltb n 10 b, enough k m (n / 10) (omega arith) (omega arith)))
    (λ b. rw (lt-ltb n 10 b))

module _ (n : ℕ) where
  pub one_digit : n < 10 → decimal n ≡ digit n ∷ []
  unfolding decimal digits
  one_digit h = rw (lt-ltb n 10 h)

  pub more_digits : 10 ≤ n → decimal n ≡ decimal (n / 10) ++ digit (n % 10) ∷ []
  unfolding decimal digits
  more_digits h = rw (le-ltb n 10 h, enough n (suc (n / 10)) (n / 10) (omega arith) (omega arith))

  longer : (k : ℕ) → length (decimal (n / 10)) ≤ k → length (decimal n) ≤ suc k
  longer k h =
      by_le 10 n
      (λ b. omega (arith, ap length (more_digits b) ∙ length-append (decimal (n / 10)) (digit (n % 10) ∷ [])))
      (λ b. omega (arith, ap length (one_digit b)))

-- How many digits a number has at most.
pub at_most_1 : (n : ℕ) → n < 10 → length (decimal n) ≤ 1
at_most_1 n h = omega (arith, ap length (one_digit n h))

pub at_most_2 : (n : ℕ) → n < 100 → length (decimal n) ≤ 2
at_most_2 n h = longer n 1 (at_most_1 (n / 10) (omega arith))

pub at_most_3 : (n : ℕ) → n < 1000 → length (decimal n) ≤ 3
at_most_3 n h = longer n 2 (at_most_2 (n / 10) (omega arith))

pub at_most_4 : (n : ℕ) → n < 10000 → length (decimal n) ≤ 4
at_most_4 n h = longer n 3 (at_most_3 (n / 10) (omega arith))

pub at_most_5 : (n : ℕ) → n < 100000 → length (decimal n) ≤ 5
at_most_5 n h = longer n 4 (at_most_4 (n / 10) (omega arith))
