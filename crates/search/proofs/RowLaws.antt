-- One row: the first level with a via decides, since one more hop, by any weight, is more than the modes can save; there the fewest deterministic legs, then the lowest place.
use Prim.Native.Nat.{ℕ, min, ◌+◌, ◌*◌, ◌/◌, ◌%◌, ◌^◌, ◌≤◌, ◌<◌}
use native.Mathlib.Omega.{arith}
use native.Mathlib.Nat.{mul-le-mul_left, mul-add}
use mathlib.Core.Path.{◌≡◌, refl, sym, ap, ◌∙◌}
use mathlib.Core.Logic.{inl, inr}
use mathlib.Core.Bool.{Bool, true, false, ◌&&◌, ◌||◌}
use mathlib.Core.List.{List}
use lib.Bits.{bit_and, bit_or, and_le_l}
use lib.ListN.{get_or}
use borrow.Author.Tests.{eq-eqb, ne_eqb}
use Rattle.theory.proofs.Bools.{and_true, or_false}
use Rattle.theory.proofs.Cases.{test, by_le, by_order}
use Rattle.rows.specs.Bits.{bit}
use Rattle.rows.specs.NextSet.{NextSet}
use Rattle.rows.proofs.Bits.{bit_and_law, bit_or_law, same_bits}
use Rattle.rows.proofs.LowestBit.{none_set}
use Rattle.search.specs.Number.{unclear, det_of, via_number}
use Rattle.search.specs.RowNumber.{Lowers, LevelOf, place_part, LeastPlace, RowHas}
use Rattle.search.proofs.Lowering.{kept}
use Rattle.search.proofs.Seeking.{clash}

-- ---- sets of places
pub record FirstBit (set x : ℕ) : Type 0 where
  pub small : x < 16
  pub at : bit set x ≡ true
  pub first : (i : ℕ) → bit set i ≡ true → x ≤ i

pub first_bit : (set x : ℕ) → set < 65536 → (set ≡ 0 → ⊥) → NextSet set 0 x → FirstBit set x
first_bit set x h ne n =
    let small : x < 16 =
    by_le 16 x
    (λ l. absurd (ne (same_bits 16 set 0 h (omega arith) (λ i k. n.skip i (omega arith) (omega arith) ∙ sym (none_set i)))))
    (λ l. l) in
    record {
      small = small;
      at = (n.set small).1;
      first = λ i e. by_le x i (λ l. l) (λ l. clash (bit set i) e (n.skip i (omega arith) l));
    }

-- In a part of a set of 16 places.
pub first_in : (set m x : ℕ) → set < 65536 → (bit_and set m ≡ 0 → ⊥) → NextSet (bit_and set m) 0 x → FirstBit (bit_and set m) x
first_in set m x h = first_bit (bit_and set m) x (omega (arith, and_le_l set m))

pub first_in_both : (set m k x : ℕ) → set < 65536 → (bit_and (bit_and set m) k ≡ 0 → ⊥) → NextSet (bit_and (bit_and set m) k) 0 x → FirstBit (bit_and (bit_and set m) k) x
first_in_both set m k x h = first_in (bit_and set m) k x (omega (arith, and_le_l set m))

empty : (set x : ℕ) → set ≡ 0 → bit set x ≡ false
empty set x e = ap (λ (m : ℕ). bit m x) e ∙ none_set x

pub present : (set x : ℕ) → set / 2 ^ x % 2 ≡ 1 → 0 ≡ det_of (bit set x)
unfolding bit
present set x e = rw (eq-eqb (set / 2 ^ x % 2) 1 e)

pub absent : (set x : ℕ) → (set / 2 ^ x % 2 ≡ 1 → ⊥) → 1 ≡ det_of (bit set x)
unfolding bit
absent set x e = rw (ne_eqb (set / 2 ^ x % 2) 1 e)

-- ---- the first level with a place of the set
module _ (set : ℕ) (xs : List ℕ) (least : ℕ) where
  pub record Passed (k : ℕ) : Type 0 where
    pub before : (i : ℕ) → least ≤ i → i < k → bit_and set (get_or xs i 0) ≡ 0

  pub passed_begin : Passed least
  passed_begin = record { before = λ i a b. absurd (omega arith) }

  pub passed_on : (k : ℕ) → Passed k → bit_and set (get_or xs k 0) ≡ 0 → Passed (k + 1)
  passed_on k p e = record { before = λ i a b. by_order i k (λ l. p.before i a l) (λ l. rw l e) (λ l. absurd (omega arith)) }

  pub passed_found : (k : ℕ) → Passed k → k < 32 → (bit_and set (get_or xs k 0) ≡ 0 → ⊥) → LevelOf set xs least k
  passed_found k p l ne = record { most = omega arith; before = p.before; some = λ q. ne }

  pub passed_none : (k : ℕ) → Passed k → 32 ≤ k → LevelOf set xs least 32
  passed_none k p l = record { most = omega arith; before = λ i a b. p.before i a (omega arith); some = λ q. absurd (omega arith) }

-- ---- the least place of a set
module _ (set a1 a2 : ℕ) where
  two_bit : (x : ℕ) → bit (bit_and (bit_and set a1) a2) x ≡ ((bit set x && bit a1 x) && bit a2 x)
  two_bit x = bit_and_law (bit_and set a1) a2 x ∙ rw (bit_and_law set a1 x)

  one_bit : (x : ℕ) → bit (bit_and set (bit_or a1 a2)) x ≡ (bit set x && (bit a1 x || bit a2 x))
  one_bit x = bit_and_law set (bit_or a1 a2) x ∙ rw (bit_or_law a1 a2 x)

  -- The first place of those with no deterministic leg.
  pub least_none : (x : ℕ) → FirstBit (bit_and (bit_and set a1) a2) x → LeastPlace set a1 a2 (2 * x)
  unfolding place_part
  least_none x w =
      let b = and_true (bit set x && bit a1 x) _ (sym (two_bit x) ∙ w.at) in
      let c = and_true (bit set x) _ b.0 in
      let small = w.small in
      record {
        most = omega arith;
        each = λ i e. go i e (bit a1 i) (bit a2 i) refl refl;
        one = record { x = x; at = c.0; is = rw (c.1, b.1) (omega arith) };
      }
    where
      go : (i : ℕ) → bit set i ≡ true → (p q : Bool) → bit a1 i ≡ p → bit a2 i ≡ q → 2 * x ≤ (det_of p + det_of q) * 16384 + (i * 2 + det_of p)
      go i e true true g h = let l = w.first i (two_bit i ∙ rw (e, g, h)) in omega arith
      go i e true false g h = omega (arith, w.small)
      go i e false true g h = omega (arith, w.small)
      go i e false false g h = omega (arith, w.small)

  -- Of those with one, where none has none.
  pub least_one : (x t : ℕ) → bit_and (bit_and set a1) a2 ≡ 0 → FirstBit (bit_and set (bit_or a1 a2)) x → t ≡ det_of (bit a1 x) → LeastPlace set a1 a2 (16384 + 2 * x + t)
  unfolding place_part
  least_one x t none w et =
      let b = and_true (bit set x) _ (sym (one_bit x) ∙ w.at) in
      record {
        most = omega (arith, w.small, size (bit a1 x), et);
        each = λ i e. by_order i x
            (λ l. below i e l (bit a1 i) (bit a2 i) refl refl)
            (λ l. rw (l, et) (same (bit a1 x) (bit a2 x) refl refl b.0))
            (λ l. above i e l (bit a1 i) (bit a2 i) refl refl);
        one = record { x = x; at = b.0; is = rw et (is (bit a1 x) (bit a2 x) refl refl b.0 b.1) };
      }
    where
      size : (p : Bool) → det_of p ≤ 1
      size true = omega arith
      size false = omega arith

      never : (i : ℕ) → bit set i ≡ true → bit a1 i ≡ true → bit a2 i ≡ true → ⊥
      never i e g h = clash (bit (bit_and (bit_and set a1) a2) i) (two_bit i ∙ rw (e, g, h)) (empty (bit_and (bit_and set a1) a2) i none)

      below : (i : ℕ) → bit set i ≡ true → i < x → (p q : Bool) → bit a1 i ≡ p → bit a2 i ≡ q → 16384 + 2 * x + t ≤ (det_of p + det_of q) * 16384 + (i * 2 + det_of p)
      below i e l true true g h = absurd (never i e g h)
      below i e l true false g h = absurd (omega (arith, w.first i (one_bit i ∙ rw (e, g))))
      below i e l false true g h = absurd (omega (arith, w.first i (one_bit i ∙ rw (e, g, h))))
      below i e l false false g h = omega (arith, w.small, size (bit a1 x), et)

      above : (i : ℕ) → bit set i ≡ true → x < i → (p q : Bool) → bit a1 i ≡ p → bit a2 i ≡ q → 16384 + 2 * x + t ≤ (det_of p + det_of q) * 16384 + (i * 2 + det_of p)
      above i e l true true g h = absurd (never i e g h)
      above i e l true false g h = omega (arith, size (bit a1 x), et)
      above i e l false true g h = omega (arith, size (bit a1 x), et)
      above i e l false false g h = omega (arith, size (bit a1 x), et)

      same : (p q : Bool) → bit a1 x ≡ p → bit a2 x ≡ q → bit set x ≡ true → 16384 + 2 * x + det_of p ≤ (det_of p + det_of q) * 16384 + (x * 2 + det_of p)
      same true true g h e = absurd (never x e g h)
      same true false g h e = omega arith
      same false true g h e = omega arith
      same false false g h e = omega arith

      is : (p q : Bool) → bit a1 x ≡ p → bit a2 x ≡ q → bit set x ≡ true → (p || q) ≡ true → 16384 + 2 * x + det_of p ≡ (det_of p + det_of q) * 16384 + (x * 2 + det_of p)
      is true true g h e o = absurd (never x e g h)
      is true false g h e o = omega arith
      is false true g h e o = omega arith
      is false false g h e o = clash false o refl

  -- Of all, where each has two.
  pub least_two : (x : ℕ) → bit_and set (bit_or a1 a2) ≡ 0 → FirstBit set x → LeastPlace set a1 a2 (32769 + 2 * x)
  unfolding place_part
  least_two x none w =
      let small = w.small in
      record {
        most = omega arith;
        each = λ i e. let g = neither i e in rw (g.0, g.1) (omega (arith, w.first i e));
        one = record { x = x; at = w.at; is = let g = neither x w.at in rw (g.0, g.1) (omega arith) };
      }
    where
      neither : (i : ℕ) → bit set i ≡ true → (bit a1 i ≡ false) × (bit a2 i ≡ false)
      neither i e =
          test (bit a1 i || bit a2 i)
          (λ o. clash (bit (bit_and set (bit_or a1 a2)) i) (one_bit i ∙ rw (e, o)) (empty (bit_and set (bit_or a1 a2)) i none))
          (λ o. or_false (bit a1 i) _ o)

-- ---- a row
-- The number of a via, by cases on whether its legs are clear.
via_cases : {A : Type 0} (len v : ℕ) (a1 d1 a2 d2 : Bool) → (via_number len v a1 d1 a2 d2 ≡ unclear → A) → (d1 ≡ true → d2 ≡ true → via_number len v a1 d1 a2 d2 ≡ len * 65536 + ((det_of a1 + det_of a2) * 16384 + (8192 + (v * 2 + det_of a1))) → A) → A
unfolding via_number
via_cases len v a1 true a2 true f g = g refl refl refl
via_cases len v a1 true a2 false f g = f refl
via_cases len v a1 false a2 true f g = f refl
via_cases len v a1 false a2 false f g = f refl

module _ (wx : ℕ) (xs : List ℕ) (least base first a1 d1 a2 d2 best : ℕ) (hw : 1 ≤ wx) (hb : best ≤ unclear) (none : (k : ℕ) → k < least → get_or xs k 0 ≡ 0) where
  -- A via whose legs are both clear: where it is.
  far_enough : (x k : ℕ) → bit (get_or xs k 0) x ≡ true → least ≤ k
  far_enough x k e = by_le least k (λ l. l) (λ l. clash (bit (get_or xs k 0) x) e (empty (get_or xs k 0) x (none k l)))

  set_bit : (x : ℕ) → bit d1 x ≡ true → bit d2 x ≡ true → bit (bit_and d1 d2) x ≡ true
  set_bit x e f = bit_and_law d1 d2 x ∙ rw (e, f)

  level_bit : (x k : ℕ) → bit d1 x ≡ true → bit d2 x ≡ true → bit (get_or xs k 0) x ≡ true → bit (bit_and (bit_and d1 d2) (get_or xs k 0)) x ≡ true
  level_bit x k e f g = bit_and_law (bit_and d1 d2) (get_or xs k 0) x ∙ rw (set_bit x e f, g)

  pub row_far : best ≤ (base + wx * least) * 65536 → Lowers best best (RowHas wx xs base first a1 d1 a2 d2)
  row_far l = kept best (λ n w. via_cases (base + wx * w.k) (w.x + first) (bit a1 w.x) (bit d1 w.x) (bit a2 w.x) (bit d2 w.x)
      (λ u. omega (arith, w.is))
      (λ p q e. let up : wx * least ≤ wx * w.k = mul-le-mul_left wx (far_enough w.x w.k w.at) in omega (arith, w.is)))

  pub row_empty : bit_and d1 d2 ≡ 0 → Lowers best best (RowHas wx xs base first a1 d1 a2 d2)
  row_empty z = kept best (λ n w. via_cases (base + wx * w.k) (w.x + first) (bit a1 w.x) (bit d1 w.x) (bit a2 w.x) (bit d2 w.x)
      (λ u. omega (arith, w.is))
      (λ p q e. clash (bit (bit_and d1 d2) w.x) (set_bit w.x p q) (empty (bit_and d1 d2) w.x z)))

  module _ (k : ℕ) (v : LevelOf (bit_and d1 d2) xs least k) where
    behind : (x i : ℕ) → bit d1 x ≡ true → bit d2 x ≡ true → bit (get_or xs i 0) x ≡ true → k ≤ i
    behind x i p q e =
        by_le k i (λ l. l)
        (λ l. clash (bit (bit_and (bit_and d1 d2) (get_or xs i 0)) x) (level_bit x i p q e) (empty (bit_and (bit_and d1 d2) (get_or xs i 0)) x (v.before i (far_enough x i e) l)))

    pub row_none : 32 ≤ k → Lowers best best (RowHas wx xs base first a1 d1 a2 d2)
    row_none l = kept best (λ n w. via_cases (base + wx * w.k) (w.x + first) (bit a1 w.x) (bit d1 w.x) (bit a2 w.x) (bit d2 w.x)
        (λ u. omega (arith, w.is))
        (λ p q e. absurd (omega (arith, w.small, behind w.x w.k p q w.at))))

    -- One hop more is at least 1 more of the length.
    one_more : (i j : ℕ) → i < j → wx * i + 1 ≤ wx * j
    one_more i j l = let up : wx * (i + 1) ≤ wx * j = mul-le-mul_left wx (next i j l) in omega (arith, mul-add wx i 1)
      where
        next : (i j : ℕ) → i < j → i + 1 ≤ j
        next i j l = omega arith

    module _ (t : ℕ) (hk : k < 32) (p : LeastPlace (bit_and (bit_and d1 d2) (get_or xs k 0)) a1 a2 t) where
      abbrev found : ℕ
      found = (base + wx * k) * 65536 + (8192 + 2 * first) + t

      no_less : (n : ℕ) → RowHas wx xs base first a1 d1 a2 d2 n → min found best ≤ n
      unfolding place_part
      no_less n w =
          via_cases (base + wx * w.k) (w.x + first) (bit a1 w.x) (bit d1 w.x) (bit a2 w.x) (bit d2 w.x)
          (λ u. omega (arith, w.is))
          (λ f g e. by_order k w.k
          (λ l. omega (arith, w.is, p.most, one_more k w.k l))
          (λ l. omega (arith, w.is, ap (λ (j : ℕ). wx * j) l, p.each w.x (rw l (level_bit w.x w.k f g w.at))))
          (λ l. absurd (omega (arith, behind w.x w.k f g w.at))))

      is_one : RowHas wx xs base first a1 d1 a2 d2 found
      unfolding place_part via_number
      is_one =
          let o = p.one in
          let b = and_true (bit (bit_and d1 d2) o.x) _ (sym (bit_and_law (bit_and d1 d2) (get_or xs k 0) o.x) ∙ o.at) in
          let d = and_true (bit d1 o.x) _ (sym (bit_and_law d1 d2 o.x) ∙ b.0) in
          record { x = o.x; k = k; small = hk; at = b.1; is = rw (d.0, d.1) (omega (arith, o.is)) }

      pub row_found : (r : ℕ) → r ≡ min found best → Lowers best r (RowHas wx xs base first a1 d1 a2 d2)
      row_found r e = rw e (record {
        low = omega arith;
        each = no_less;
        one = by_le best found (λ l. inl (omega arith)) (λ l. let g : min found best ≡ found = omega arith in rw g (inr is_one));
      })
