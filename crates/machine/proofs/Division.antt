-- Division by subtraction: the divisor taken away 8, 4, 2 times and once, where each goes.
use Prim.Native.Nat.{ℕ, ◌+◌, ◌-◌, ◌*◌, ◌/◌, ◌%◌, ◌≤◌, ◌<◌}
use mathlib.Core.Path.{◌≡◌, sym, ap, ◌∙◌}
use native.Mathlib.Nat.{add-mul, mod-add-div, mul_comm, mul-le-mul}
use native.Mathlib.Omega.{arith}
use lib.Arith.{digits_div}
use borrow.Author.Tests.{lt-ltb, le-ltb}
use Rattle.theory.proofs.Cases.{by_le}
use Rattle.machine.specs.Division.{times, rest, Left}

pub part_most : (k d : ℕ) → k < 16 → d ≤ 65535 → k * d ≤ 983025
part_most k d hk hd = let h : k ≤ 15 = omega arith in mul-le-mul h hd

pub whole : (n d : ℕ) → Left n d 16 0 n
whole n d = record { is = omega arith; few = omega arith; low = λ h. h; high = λ h. omega arith }

pub half_taken : (n d m t r : ℕ) → m * d ≤ r → Left n d (m + m) t r → Left n d m (t + m) (r - m * d)
half_taken n d m t r a w = record {
  is = omega (arith, w.is, add-mul t m d);
  few = omega (arith, w.few);
  low = λ h. omega (arith, w.low h, add-mul m m d);
  high = λ h. omega (arith, w.high h);
}

pub half_kept : (n d m t r : ℕ) → r < m * d → Left n d (m + m) t r → Left n d m t r
half_kept n d m t r a w = record {
  is = w.is;
  few = omega (arith, w.few);
  low = λ h. a;
  high = λ h. absurd (omega (arith, w.is, ap (λ k. k * d) (w.high h), add-mul t (m + m) d, add-mul m m d));
}

pub done : (n d t r : ℕ) → Left n d 1 t r → (t ≡ times n d) × (r ≡ rest n d)
unfolding rest times
done n d t r w =
    by_le (16 * d) n
    (λ a. let e : t ≡ 15 = omega (arith, w.high a) in rw (le-ltb n (16 * d) a) (e, omega (arith, w.is, ap (λ k. k * d) e)))
    (λ a.
    let e : n / d ≡ t = rw w.is (digits_div t (omega (arith, w.low a))) in
    rw (lt-ltb n (16 * d) a, e) (sym e ∙ e, omega (arith, w.is)))

-- Of a number below 16 times the divisor they are quotient and remainder.
pub times_is : (n d : ℕ) → n < 16 * d → times n d ≡ n / d
unfolding times
times_is n d h = rw (lt-ltb n (16 * d) h)

pub rest_is : (n d : ℕ) → n < 16 * d → rest n d ≡ n % d
unfolding rest
rest_is n d h = rw (times_is n d h) (omega (arith, mod-add-div n d, mul_comm d (n / d)))
