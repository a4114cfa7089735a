-- Rows combined bit by bit, ranges of bits, and rows turned round a ring.
use Prim.Native.Nat.{ℕ, zero, suc, ◌+◌, ◌-◌, ◌*◌, ◌/◌, ◌%◌, ◌^◌, ◌≤◌, ◌<◌}
use native.Mathlib.Omega.{arith}
use mathlib.Core.Path.{◌≡◌, refl, sym, ap, ◌∙◌}
use mathlib.Core.Bool.{Bool, true, false, cond, not, ◌&&◌, ◌||◌}
use lib.Bits.{bit_and, bit_or, and_lt, and_le_l, and_le_r, or_lt}
use lib.Dec.{ltb, leb, eqb}
use lib.Pow.{pow_mono, pow_pos, shl-shr, shr-shr}
use borrow.Author.Tests.{lt-ltb, le-ltb, le-leb, lt-leb}
use Rattle.theory.proofs.Cases.{by_le}
use Rattle.shape.specs.Steps.{ahead}
use Rattle.rows.specs.Bits.{bit, row_of}
use Rattle.rows.proofs.LowestBit.{bit_down}
use Rattle.rows.proofs.Bits.{bit_and_law, bit_or_law, bit_not, bit_low, bit_past, row_below, row_bit, row_of_law}

pub row_same : (f g : ℕ → Bool) (n : ℕ) → ((x : ℕ) → x < n → f x ≡ g x) → row_of f n ≡ row_of g n
unfolding row_of
row_same f g zero e = refl
row_same f g (suc n) e = rw (e n (omega arith), row_same f g n (λ x l. e x (omega arith)))

pub or_rows : (f g : ℕ → Bool) (n : ℕ) → bit_or (row_of f n) (row_of g n) ≡ row_of (λ x. f x || g x) n
or_rows f g n =
    row_of_law (λ x. f x || g x) n (bit_or (row_of f n) (row_of g n)) (or_lt n (row_of f n) (row_of g n) (row_below f n) (row_below g n))
    (λ x l. bit_or_law (row_of f n) (row_of g n) x ∙ rw (row_bit f n x l, row_bit g n x l))

pub and_rows : (f g : ℕ → Bool) (n : ℕ) → bit_and (row_of f n) (row_of g n) ≡ row_of (λ x. f x && g x) n
and_rows f g n =
    row_of_law (λ x. f x && g x) n (bit_and (row_of f n) (row_of g n)) (and_lt n (row_of f n) (row_of g n) (row_below f n) (row_below g n))
    (λ x l. bit_and_law (row_of f n) (row_of g n) x ∙ rw (row_bit f n x l, row_bit g n x l))

pub not_row : (f : ℕ → Bool) (n : ℕ) → 2 ^ n - 1 - row_of f n ≡ row_of (λ x. not (f x)) n
not_row f n =
    row_of_law (λ x. not (f x)) n (2 ^ n - 1 - row_of f n) (omega (arith, row_below f n))
    (λ x l. bit_not n (row_of f n) x (row_below f n) l ∙ rw (row_bit f n x l))

pub no_row : (n : ℕ) → row_of (λ x. false) n ≡ 0
unfolding row_of
no_row zero = refl
no_row (suc n) = omega (arith, no_row n)

pub full_row : (n : ℕ) → 2 ^ n - 1 ≡ row_of (λ x. true) n
full_row n = omega (arith, no_row n, not_row (λ x. false) n)

pub pick_row : (b : Bool) (f : ℕ → Bool) (n : ℕ) → cond b (row_of f n) 0 ≡ row_of (λ x. b && f x) n
pick_row true f n = refl
pick_row false f n = sym (no_row n)

-- ---- the bits from lo on below hi
bit_none : (x : ℕ) → bit 0 x ≡ false
bit_none x = bit_past 0 0 x (omega arith) (omega arith)

pub bit_ones : (n x : ℕ) → bit (2 ^ n - 1) x ≡ ltb x n
bit_ones n x =
    by_le n x
    (λ h. bit_past n (2 ^ n - 1) x (omega (arith, pow_pos n)) h ∙ sym (le-ltb x n h))
    (λ h.
    let z : 2 ^ n - 1 ≡ 2 ^ n - 1 - 0 = omega arith in
    ap (λ (t : ℕ). bit t x) z ∙ bit_not n 0 x (pow_pos n) h ∙ rw (bit_none x, lt-ltb x n h))

pub range_row : (lo hi n : ℕ) → lo ≤ 16 → hi ≤ n → n ≤ 16 → bit_and (2 ^ hi - 1) (65535 - (2 ^ lo - 1)) ≡ row_of (λ x. leb lo x && ltb x hi) n
range_row lo hi n hl hh hn =
    row_of_law (λ x. leb lo x && ltb x hi) n (bit_and (2 ^ hi - 1) (65535 - (2 ^ lo - 1)))
    (omega (arith, and_le_l (2 ^ hi - 1) (65535 - (2 ^ lo - 1)), pow_pos hi, pow_mono {i = hi} {j = n} hh))
    (λ x l.
    bit_and_law (2 ^ hi - 1) (65535 - (2 ^ lo - 1)) x
    ∙ rw (bit_ones hi x, bit_not 16 (2 ^ lo - 1) x (omega (arith, pow_pos lo, pow_mono {i = lo} {j = 16} hl)) (omega arith), bit_ones lo x)
    (by_le lo x (λ h. rw (le-ltb x lo h, le-leb lo x h) (go (ltb x hi))) (λ h. rw (lt-ltb x lo h, lt-leb lo x h) (none (ltb x hi)))))
  where
    go : (b : Bool) → (b && not false) ≡ (true && b)
    go true = refl
    go false = refl

    none : (b : Bool) → (b && not true) ≡ (false && b)
    none true = refl
    none false = refl

-- ---- a row turned round a ring: moved up by p, and what comes past the end from the start on
bit_up : (m p y : ℕ) → bit (m * 2 ^ p) (p + y) ≡ bit m y
unfolding bit
bit_up m p y = ap (λ (t : ℕ). eqb (t % 2) 1) (sym (shr-shr (m * 2 ^ p) p y) ∙ ap (λ (t : ℕ). t / 2 ^ y) (shl-shr m p))

bit_under : (m p x : ℕ) → x < p → bit (m * 2 ^ p) x ≡ false
bit_under m p x h = let z : m * 2 ^ p ≡ m * 2 ^ p + 0 = omega arith in ap (λ (t : ℕ). bit t x) z ∙ bit_low m p 0 x h ∙ bit_none x

pub turned_row : (m p len : ℕ) → p < len → m < 2 ^ len → bit_and (bit_or (m * 2 ^ p) (m * 2 ^ p / 2 ^ len)) (2 ^ len - 1) ≡ row_of (λ x. bit m (ahead len p x)) len
unfolding ahead
turned_row m p len hp hm =
    row_of_law (λ x. bit m (ahead len p x)) len (bit_and (bit_or v (v / 2 ^ len)) (2 ^ len - 1))
    (omega (arith, and_le_r (bit_or v (v / 2 ^ len)) (2 ^ len - 1), pow_pos len))
    (λ x l. bit_and_law (bit_or v (v / 2 ^ len)) (2 ^ len - 1) x ∙ rw (bit_ones len x, lt-ltb x len l, bit_or_law v (v / 2 ^ len) x, bit_down len v x) (at x l))
  where
    v : ℕ
    v = m * 2 ^ p

    and_true : (b : Bool) → (b && true) ≡ b
    and_true true = refl
    and_true false = refl

    or_false : (b : Bool) → (b || false) ≡ b
    or_false true = refl
    or_false false = refl

    at : (x : ℕ) → x < len → ((bit v x || bit v (len + x)) && true) ≡ bit m (cond (leb p x) (x - p) (len - (p - x)))
    at x l =
        and_true (bit v x || bit v (len + x))
        ∙ by_le p x
        (λ h.
        let near : x ≡ p + (x - p) = omega arith in
        let far : len + x ≡ p + (len + x - p) = omega arith in
        rw (le-leb p x h, ap (λ (t : ℕ). bit v t) near ∙ bit_up m p (x - p), ap (λ (t : ℕ). bit v t) far ∙ bit_up m p (len + x - p), bit_past len m (len + x - p) hm (omega arith))
        (or_false (bit m (x - p))))
        (λ h.
        let far : len + x ≡ p + (len - (p - x)) = omega arith in
        rw (lt-leb p x h, bit_under m p x h, ap (λ (t : ℕ). bit v t) far ∙ bit_up m p (len - (p - x))))
