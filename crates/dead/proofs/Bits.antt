-- Numbers of six bits.
use Prim.Native.Nat.{ℕ, zero, suc, ◌+◌, ◌*◌, ◌/◌, ◌%◌, ◌^◌, ◌≤◌, ◌<◌}
use native.Mathlib.Omega.{arith}
use native.Mathlib.Nat.{zero-div, div-one, div-div-eq-div-mul, pow-suc, mul_comm, mul-add}
use mathlib.Core.Path.{◌≡◌, refl, sym, ap, ◌∙◌}
use mathlib.Core.Bool.{Bool, true, false, cond, ◌&&◌, ◌||◌}
use mathlib.Core.List.{List, [], ◌∷◌}
use lib.ListN.{length, get_or, set}
use lib.Dec.{eqb, lit≤}
use lib.Bits.{bit_or}
use borrow.Author.Tests.{eq-eqb, ne_eqb, eqb-true, eqb-false}
use Rattle.theory.proofs.Bools.{and_true}
use Rattle.theory.proofs.Cases.{test, by_le}
use Rattle.dead.specs.Dead.{bit_of, value_of, bits}
use Rattle.dead.specs.Steps.{odd, with_bit}
use Rattle.dead.proofs.Bools.{or_on, or_off}

-- The lowest bit, and the bits above it.
lowest : (b : Bool) (v : ℕ) → odd (bit_of b + 2 * v) ≡ b
lowest true v = eq-eqb ((1 + 2 * v) % 2) 1 (omega arith)
lowest false v = ne_eqb ((0 + 2 * v) % 2) 1 (omega arith)

above : (b : Bool) (v : ℕ) → (bit_of b + 2 * v) / 2 ≡ v
above true v = omega arith
above false v = omega arith

double : (d : ℕ) → 2 ^ suc d ≡ 2 * 2 ^ d
double d = pow-suc 2 d ∙ mul_comm (2 ^ d) 2

halves : (x d : ℕ) → x / 2 ^ suc d ≡ x / 2 / 2 ^ d
halves x d = ap (λ (t : ℕ). x / t) (double d) ∙ sym (div-div-eq-div-mul x 2 (2 ^ d))

-- Bit d of a number made of bits.
pub bit_of_value : (bs : List Bool) (d : ℕ) → odd (value_of bs / 2 ^ d) ≡ get_or bs d false
unfolding value_of
bit_of_value [] d = rw (zero-div (2 ^ d))
bit_of_value (b ∷ bs) zero = rw (div-one (bit_of b + 2 * value_of bs)) (lowest b (value_of bs))
bit_of_value (b ∷ bs) (suc d) = rw (halves (bit_of b + 2 * value_of bs) d, above b (value_of bs)) (bit_of_value bs d)

-- One bit set.
set_first : (b : Bool) (v : ℕ) → cond (odd ((bit_of b + 2 * v) / 1)) (bit_of b + 2 * v) (bit_of b + 2 * v + 1) ≡ 1 + 2 * v
set_first b v = rw (div-one (bit_of b + 2 * v), lowest b v) (go b)
  where
    go : (b : Bool) → cond b (bit_of b + 2 * v) (bit_of b + 2 * v + 1) ≡ 1 + 2 * v
    go true = refl
    go false = omega arith

set_next : (c : Bool) (b v p q : ℕ) → q ≡ 2 * p → cond c (b + 2 * v) (b + 2 * v + q) ≡ b + 2 * cond c v (v + p)
set_next true b v p q e = refl
set_next false b v p q e = omega (arith, mul-add 2 v p)

set_bit : (bs : List Bool) (d : ℕ) → d < length bs → with_bit (value_of bs) d ≡ value_of (set bs d true)
unfolding value_of with_bit
set_bit [] d h = absurd (omega arith)
set_bit (b ∷ bs) zero h = set_first b (value_of bs)
set_bit (b ∷ bs) (suc d) h =
    rw (halves (bit_of b + 2 * value_of bs) d, above b (value_of bs))
    (set_next (odd (value_of bs / 2 ^ d)) (bit_of b) (value_of bs) (2 ^ d) (2 ^ suc d) (double d) ∙ ap (λ (x : ℕ). bit_of b + 2 * x) (set_bit bs d (omega arith)))

-- The six numbers of directions, one by one.
by_six : (P : ℕ → Type 0) → P 0 → P 1 → P 2 → P 3 → P 4 → P 5 → (d : ℕ) → d ≤ 5 → P d
by_six P a b c d e f zero h = a
by_six P a b c d e f (suc zero) h = b
by_six P a b c d e f (suc (suc zero)) h = c
by_six P a b c d e f (suc (suc (suc zero))) h = d
by_six P a b c d e f (suc (suc (suc (suc zero)))) h = e
by_six P a b c d e f (suc (suc (suc (suc (suc zero))))) h = f
by_six P a b c d e f (suc (suc (suc (suc (suc (suc n)))))) h = absurd (omega arith)

module _ (f : ℕ → Bool) where
  six : List Bool
  six = f 0 ∷ f 1 ∷ f 2 ∷ f 3 ∷ f 4 ∷ f 5 ∷ []

  pub bits_set : (d : ℕ) → d ≤ 5 → with_bit (bits f) d ≡ bits (λ e. f e || eqb e d)
  unfolding bits six
  bits_set =
      by_six (λ d. with_bit (value_of six) d ≡ bits (λ e. f e || eqb e d))
      (set_bit six 0 (lit≤ tt) ∙ rw (or_on (f 0), or_off (f 1), or_off (f 2), or_off (f 3), or_off (f 4), or_off (f 5)))
      (set_bit six 1 (lit≤ tt) ∙ rw (or_off (f 0), or_on (f 1), or_off (f 2), or_off (f 3), or_off (f 4), or_off (f 5)))
      (set_bit six 2 (lit≤ tt) ∙ rw (or_off (f 0), or_off (f 1), or_on (f 2), or_off (f 3), or_off (f 4), or_off (f 5)))
      (set_bit six 3 (lit≤ tt) ∙ rw (or_off (f 0), or_off (f 1), or_off (f 2), or_on (f 3), or_off (f 4), or_off (f 5)))
      (set_bit six 4 (lit≤ tt) ∙ rw (or_off (f 0), or_off (f 1), or_off (f 2), or_off (f 3), or_on (f 4), or_off (f 5)))
      (set_bit six 5 (lit≤ tt) ∙ rw (or_off (f 0), or_off (f 1), or_off (f 2), or_off (f 3), or_off (f 4), or_on (f 5)))

  pub bits_at : (d : ℕ) → d ≤ 5 → odd (bits f / 2 ^ d) ≡ f d
  unfolding bits six
  bits_at d h = bit_of_value six d ∙ by_six (λ d. get_or six d false ≡ f d) refl refl refl refl refl refl d h

pub bits_same : (f g : ℕ → Bool) → ((d : ℕ) → d ≤ 5 → f d ≡ g d) → bits f ≡ bits g
unfolding bits
bits_same f g h = rw (h 0 (lit≤ tt), h 1 (lit≤ tt), h 2 (lit≤ tt), h 3 (lit≤ tt), h 4 (lit≤ tt), h 5 (lit≤ tt))

pub bits_none : bits (λ d. false) ≡ 0
unfolding bits value_of
bits_none = refl

-- A bit set leaves a number of six bits.
within : (v p : ℕ) → v < 64 → ((v / p % 2 ≡ 1 → ⊥) → v + p < 64) → cond (odd (v / p)) v (v + p) < 64
within v p h f = test (odd (v / p)) (λ e. rw e h) (λ e. rw e (f (eqb-false (v / p % 2) 1 e)))

pub with_small : (v d : ℕ) → v < 64 → d ≤ 5 → with_bit v d < 64
unfolding with_bit
with_small v d h =
    by_six (λ d. with_bit v d < 64)
    (within v 1 h (λ n. omega arith))
    (within v 2 h (λ n. omega arith))
    (within v 4 h (λ n. omega arith))
    (within v 8 h (λ n. omega arith))
    (within v 16 h (λ n. omega arith))
    (within v 32 h (λ n. omega arith))
    d

-- A byte with one of six bits set: by a test of each.
unfoldable all_to : (ℕ → Bool) → ℕ → Bool
all_to f zero = true
all_to f (suc n) = f n && all_to f n

all_below : (f : ℕ → Bool) (n : ℕ) → all_to f n ≡ true → (k : ℕ) → k < n → f k ≡ true
unfolding all_to
all_below f zero e k l = absurd (omega arith)
all_below f (suc n) e k l = by_le n k
    (λ h. let q : k ≡ n = omega arith in rw q (and_true (f n) _ e).0)
    (λ h. all_below f n (and_true (f n) _ e).1 k h)

abbrev is_or : ℕ → ℕ → Bool
is_or d v = eqb (bit_or v (1 * 2 ^ d % 256)) (with_bit v d)

ors_are : (d : ℕ) → d ≤ 5 → all_to (is_or d) 256 ≡ true
unfolding all_to with_bit
ors_are = by_six (λ d. all_to (is_or d) 256 ≡ true) refl refl refl refl refl refl

pub or_is : (v d : ℕ) → v < 256 → d ≤ 5 → bit_or v (1 * 2 ^ d % 256) ≡ with_bit v d
or_is v d h k = eqb-true (bit_or v (1 * 2 ^ d % 256)) (with_bit v d) (all_below (is_or d) 256 (ors_are d k) v h)
