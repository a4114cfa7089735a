-- What the places of a dimension make of a length: place by place, and by levels.
use Prim.Native.Nat.{ℕ, ◌+◌, ◌*◌, ◌^◌, ◌≤◌, ◌<◌}
use native.Mathlib.Omega.{arith}
use native.Mathlib.Nat.{mul-le-mul}
use native.Mathlib.Numerals.{add-one}
use native.Mathlib.Decide.{ℕ_discrete}
use mathlib.Core.Path.{◌≡◌, refl, sym, ◌∙◌}
use mathlib.Core.Bool.{Bool, true}
use mathlib.Core.List.{List}
use lib.Dec.{eqb}
use lib.ListN.{length, get_or, set, replicate, length-set, get_or-replicate}
use lib.Pow.{pow_mono}
use lib.Seq.{get_or-set_same, get_or-set_other}
use borrow.Author.Tests.{eq-eqb, ne_eqb, eqb-true}
use Rattle.shape.proofs.AxisLaws.{axis_below}
use Rattle.rows.specs.Bits.{bit, row_of}
use Rattle.rows.proofs.Bits.{double, row_below, row_bit, row_past}
use Rattle.theory.proofs.Cases.{by_le}
use Rattle.search.specs.PartOf.{part_of, part_row, LevelsOf}
use Rattle.search.proofs.Seeking.{clash}

pub part_most : (len : ℕ) (ring : Bool) (p q x : ℕ) → len ≤ 16 → p < len → q < len → x < len → part_of len ring p q x ≤ 30
part_most len ring p q x h hp hq hx = omega (arith, axis_below len ring p x hp hx, axis_below len ring x q hx hq)

-- By a weight.
pub weighed_byte : (weight n : ℕ) → weight ≤ 8 → n ≤ 255 → weight * n ≤ 2040
weighed_byte weight n h l = mul-le-mul h l

pub weighed_most : (weight n : ℕ) → weight ≤ 8 → n ≤ 30 → weight * n ≤ 240
weighed_most weight n h l = mul-le-mul h l

-- ---- place by place
pub record Filled (f : ℕ → ℕ) (ys : List ℕ) (c : ℕ) : Type 0 where
  pub long : length ys ≡ 16
  pub each : (i : ℕ) → i < c → get_or ys i 0 ≡ f i

module _ (f : ℕ → ℕ) where
  pub filled_begin : Filled f (replicate 16 0) 0
  filled_begin = record { long = refl; each = λ i l. absurd (omega arith) }

  pub filled_turn : (ys : List ℕ) (c v : ℕ) → Filled f ys c → c < 16 → v ≡ f c → Filled f (set ys c v) (c + 1)
  filled_turn ys c v p l e = record { long = length-set ys c v ∙ p.long; each = λ i m. go i m (ℕ_discrete i c) }
    where
      go : (i : ℕ) → i < c + 1 → Dec (i ≡ c) → get_or (set ys c v) i 0 ≡ f i
      go i m (yes q) = rw q (get_or-set_same ys c v 0 (omega (arith, p.long)) ∙ e)
      go i m (no q) = get_or-set_other ys c i v 0 q ∙ p.each i (omega arith)

-- ---- by levels; f: the level of a place
module _ (f : ℕ → ℕ) where
  pub record Scatter (xs : List ℕ) (bit x : ℕ) : Type 0 where
    pub long : length xs ≡ 32
    pub power : bit ≡ 2 ^ x
    pub rows : (k : ℕ) → k < 32 → get_or xs k 0 ≡ row_of (λ n. eqb (f n) k) x

  pub scatter_begin : Scatter (replicate 32 0) 1 0
  unfolding row_of
  scatter_begin = record { long = refl; power = refl; rows = λ k l. get_or-replicate 32 k 0 0 l }

  pub scatter_fits : (xs : List ℕ) (bit x j : ℕ) → Scatter xs bit x → x < 16 → j < 32 → (bit ≤ 32768) × (get_or xs j 0 + bit < 65536)
  scatter_fits xs bit x j p l k =
      let most : 2 ^ x ≤ 32768 = pow_mono {i = x} {j = 15} (omega arith) in
      let e = p.power in
      (omega arith, omega (arith, p.rows j k, row_below (λ n. eqb (f n) j) x))

  pub scatter_turn : (xs : List ℕ) (bit x j : ℕ) → Scatter xs bit x → j ≡ f x → j < 32 → Scatter (set xs j (get_or xs j 0 + bit)) (bit * 2) (x + 1)
  unfolding row_of
  scatter_turn xs bit x j p e l = record {
    long = length-set xs j (get_or xs j 0 + bit) ∙ p.long;
    power = rw (add-one x) (omega (arith, p.power, double x));
    rows = λ k m. go k m (ℕ_discrete k j);
  }
    where
      go : (k : ℕ) → k < 32 → Dec (k ≡ j) → get_or (set xs j (get_or xs j 0 + bit)) k 0 ≡ row_of (λ n. eqb (f n) k) (x + 1)
      go k m (yes q) =
          rw (q, add-one x, eq-eqb (f x) j (sym e))
          (get_or-set_same xs j (get_or xs j 0 + bit) 0 (omega (arith, p.long)) ∙ omega (arith, p.rows j l, p.power))
      go k m (no q) =
          get_or-set_other xs j k (get_or xs j 0 + bit) 0 q ∙ p.rows k m
          ∙ sym (rw (add-one x, ne_eqb (f x) k (λ w. q (sym (e ∙ w)))) (omega arith))

pub levels_of : (len : ℕ) (ring : Bool) (p q x bit : ℕ) (xs : List ℕ) → Scatter (λ c. part_of len ring p q c) xs bit x → x ≤ len → len ≤ x → LevelsOf len ring p q xs
unfolding part_row
levels_of len ring p q x bit xs w a b = let e : x ≡ len = omega arith in record { each = λ k l. w.rows k l ∙ rw e }

-- ---- the levels of a place
module _ (len : ℕ) (ring : Bool) (p q : ℕ) (xs : List ℕ) (w : LevelsOf len ring p q xs) where
  -- Each place has its own level.
  pub level_has : (x : ℕ) → x < len → part_of len ring p q x < 32 → bit (get_or xs (part_of len ring p q x) 0) x ≡ true
  unfolding part_row
  level_has x l m =
      rw (w.each (part_of len ring p q x) m)
      (row_bit (λ c. eqb (part_of len ring p q c) (part_of len ring p q x)) len x l ∙ eq-eqb (part_of len ring p q x) (part_of len ring p q x) refl)

  -- And no other.
  pub level_is : (x k : ℕ) → k < 32 → bit (get_or xs k 0) x ≡ true → (x < len) × (part_of len ring p q x ≡ k)
  unfolding part_row
  level_is x k m e =
      let b : bit (row_of (λ c. eqb (part_of len ring p q c) k) len) x ≡ true = rw (w.each k m) at e in
      by_le len x
      (λ l. clash _ b (row_past (λ c. eqb (part_of len ring p q c) k) len x l))
      (λ l. (l, eqb-true (part_of len ring p q x) k (sym (row_bit (λ c. eqb (part_of len ring p q c) k) len x l) ∙ b)))
