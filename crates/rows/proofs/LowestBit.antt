-- The lowest set bit.
use Prim.Native.Nat.{ℕ, zero, suc, ◌+◌, ◌-◌, ◌/◌, ◌%◌, ◌^◌, ◌≤◌, ◌<◌}
use native.Mathlib.Omega.{arith}
use native.Mathlib.Nat.{div-one}
use mathlib.Core.Path.{◌≡◌, refl, sym, ap, ◌∙◌}
use mathlib.Core.Bool.{true, false, true≢false}
use lib.Pow.{shr_le}
use lib.Count.{count_trailing_zeros, under}
use Rattle.theory.proofs.Cases.{by_le}
use Rattle.rows.specs.Bits.{bit}
use Rattle.rows.proofs.Bits.{double, halves, bit_zero, bit_suc, bit_past}
use Rattle.rows.specs.NextSet.{NextSet}

pub record Lowest (n z : ℕ) : Type 0 where
  pub set : bit n z ≡ true
  pub skip : (i : ℕ) → i < z → bit n i ≡ false

digit : (n : ℕ) → (n % 2 ≡ 0 → ⊥) → n % 2 ≡ 1
digit n h = omega arith

-- One digit more.
more : (k n : ℕ) → (n ≡ 0 → ⊥) → ((n / 2 ≡ 0 → ⊥) → (count_trailing_zeros k (n / 2) < k) × Lowest (n / 2) (count_trailing_zeros k (n / 2))) → (d : ℕ) → n % 2 ≡ d → d < 2 → (under d (count_trailing_zeros k (n / 2)) < suc k) × Lowest n (under d (count_trailing_zeros k (n / 2)))
more k n h rest zero e m =
    let w = rest (λ q. h (omega arith)) in (
      omega (arith, w.0),
      record { set = bit_suc n (count_trailing_zeros k (n / 2)) ∙ w.1.set; skip = λ i j. below w.1 i j },
    )
  where
    below : Lowest (n / 2) (count_trailing_zeros k (n / 2)) → (i : ℕ) → i < suc (count_trailing_zeros k (n / 2)) → bit n i ≡ false
    below w zero j = bit_zero n ∙ rw e
    below w (suc i) j = bit_suc n i ∙ w.skip i (omega arith)
more k n h rest (suc zero) e m = (omega arith, record { set = bit_zero n ∙ rw e; skip = λ i j. absurd (omega arith) })
more k n h rest (suc (suc d)) e m = absurd (omega arith)

-- Of a number that is not 0 and has k digits.
pub lowest : (k n : ℕ) → n < 2 ^ k → (n ≡ 0 → ⊥) → (count_trailing_zeros k n < k) × Lowest n (count_trailing_zeros k n)
unfolding count_trailing_zeros
lowest zero n l h = absurd (h (omega arith))
lowest (suc k) n l h = more k n h (λ g. lowest k (n / 2) (omega (arith, double k)) g) (n % 2) refl (omega arith)

-- The bits of a number moved down.
pub bit_down : (x n i : ℕ) → bit (n / 2 ^ x) i ≡ bit n (x + i)
bit_down zero n i = ap (λ (m : ℕ). bit m i) (div-one n) ∙ ap (bit n) (omega arith)
bit_down (suc x) n i = ap (λ (m : ℕ). bit m i) (halves n x) ∙ bit_down x (n / 2) i ∙ sym (bit_suc n (x + i)) ∙ ap (bit n) (omega arith)

-- No bit is set in 0.
pub none_set : (i : ℕ) → bit 0 i ≡ false
none_set i = bit_past 0 0 i (omega arith) (omega arith)

pub past_end : (mask x : ℕ) → 16 ≤ x → NextSet mask x 16
past_end mask x h = record { most = omega arith; skip = λ i l j. absurd (omega arith); set = λ l. absurd (omega arith) }

pub none_left : (mask x : ℕ) → mask / 2 ^ x ≡ 0 → NextSet mask x 16
none_left mask x e = record {
  most = omega arith;
  skip = λ i l j. let f : x + (i - x) ≡ i = omega arith in sym (ap (bit mask) f) ∙ sym (bit_down x mask (i - x)) ∙ ap (λ (m : ℕ). bit m (i - x)) e ∙ none_set (i - x);
  set = λ l. absurd (omega arith);
}

-- z: the trailing zeros of what is left.
pub some_left : (mask x z : ℕ) → mask < 65536 → x < 16 → (mask / 2 ^ x ≡ 0 → ⊥) → z ≡ count_trailing_zeros 16 (mask / 2 ^ x) → (x + z < 16) × NextSet mask x (x + z)
some_left mask x z h l ne e =
    let w = lowest 16 (mask / 2 ^ x) (omega (arith, shr_le mask x)) ne in
    let set : bit mask (x + z) ≡ true = rw e (sym (bit_down x mask (count_trailing_zeros 16 (mask / 2 ^ x))) ∙ w.1.set) in
    let less : x + z < 16 = by_le 16 (x + z) (λ q. absurd (true≢false (sym set ∙ bit_past 16 mask (x + z) h q))) (λ q. q) in (
      less,
      record {
        most = omega arith;
        skip = λ i j k.
            let f : x + (i - x) ≡ i = omega arith in
            sym (ap (bit mask) f) ∙ sym (bit_down x mask (i - x)) ∙ w.1.skip (i - x) (omega (arith, e));
        set = λ q. (omega arith, set);
      },
    )
