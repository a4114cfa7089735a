-- Loops through the places of a mask that a dimension has.
use Prim.Native.Nat.{ℕ, ◌+◌, ◌≤◌, ◌<◌}
use native.Mathlib.Omega.{arith}
use mathlib.Core.Path.{◌≡◌}
use mathlib.Core.Logic.{◌⊎◌, inl, inr}
use mathlib.Core.Bool.{true}
use Rattle.theory.proofs.Cases.{by_le, by_order}
use Rattle.rows.specs.Bits.{bit}
use Rattle.rows.specs.NextSet.{NextSet}
use Rattle.search.specs.RowNumber.{Lowers}
use Rattle.search.proofs.Seeking.{clash}
use Rattle.search.proofs.Lowering.{kept, lower_both, lower_same}
use Rattle.second_via.specs.Nodes.{Some, All}

-- R has what P and Q have.
pub record Joins {A : Type 0} (P Q R : A → Type 0) : Type 0 where
  pub split : (a : A) → R a → P a ⊎ Q a
  pub left : (a : A) → P a → R a
  pub right : (a : A) → Q a → R a

-- i is a place of the mask, or past them.
pub record Going (mask i : ℕ) : Type 0 where
  pub most : i ≤ 16
  pub set : i < 16 → bit mask i ≡ true

pub going : (mask x i : ℕ) → NextSet mask x i → Going mask i
going mask x i n = record { most = n.most; set = λ l. (n.set l).1 }

module _ {A : Type 0} (len mask : ℕ) (at : ℕ → A → Type 0) where
  pub none_yet : (i : ℕ) → NextSet mask 0 i → (a : A) → Some len (bit mask) at i a → ⊥
  none_yet i n a p = clash (bit mask p.i) p.is (n.skip p.i (omega arith) p.below)

  -- From the place i to the next, or past it.
  pub next_on : (i w : ℕ) → len ≤ 16 → i < len → Going mask i → NextSet mask (i + 1) w → Joins (Some len (bit mask) at i) (at i) (Some len (bit mask) at w)
  next_on i w h l g n =
      let up : i < w = by_le 16 w (λ k. omega arith) (λ k. omega (arith, (n.set k).0)) in
      record {
        split = λ a p. by_order p.i i
            (λ k. inl (record { i = p.i; below = k; inside = p.inside; is = p.is; has = p.has }))
            (λ k. inr (rw k at p.has))
            (λ k. clash (bit mask p.i) p.is (n.skip p.i (omega arith) p.below));
        left = λ a p. record { i = p.i; below = omega (arith, p.below); inside = p.inside; is = p.is; has = p.has };
        right = λ a p. record { i = i; below = up; inside = l; is = g.set (omega arith); has = p };
      }

  pub all_at : (i : ℕ) (a : A) → i < len → bit mask i ≡ true → at i a → All len (bit mask) at a
  all_at i a l e p = record { i = i; below = l; inside = l; is = e; has = p }

  pub some_all : (i : ℕ) (a : A) → Some len (bit mask) at i a → All len (bit mask) at a
  some_all i a p = all_at p.i a p.inside p.is p.has

  pub all_some : (i : ℕ) → len ≤ i → (a : A) → All len (bit mask) at a → Some len (bit mask) at i a
  all_some i l a p = record { i = p.i; below = omega (arith, p.inside); inside = p.inside; is = p.is; has = p.has }

-- ---- the least number of the places
module _ (len mask : ℕ) (at : ℕ → ℕ → Type 0) (known : ℕ) where
  pub record Seeking (i best : ℕ) : Type 0 where
    pub going : Going mask i
    pub low : Lowers known best (Some len (bit mask) at i)

  pub seek_begin : (i : ℕ) → NextSet mask 0 i → Seeking i known
  seek_begin i n = record { going = going mask 0 i n; low = kept known (λ k p. absurd (none_yet len mask at i n k p)) }

  pub seek_on : (i w best r : ℕ) → len ≤ 16 → i < len → Seeking i best → Lowers best r (at i) → NextSet mask (i + 1) w → Seeking w r
  seek_on i w best r h l p q n =
      let j = next_on len mask at i w h l p.going n in
      record { going = going mask (i + 1) w n; low = lower_both known best r p.low q j.split j.left j.right }

  -- A turn of a loop over them.
  pub seek_turn : (now x next best r : ℕ) → len ≤ 16 → Seeking now best → (x ≡ now) × (x < len) × NextSet mask (x + 1) next → Lowers best r (at x) → Seeking next r
  seek_turn now x next best r h p t q = seek_on x next best r h t.1 (rw (← t.0) at p) q t.2

  pub seek_end : (i best : ℕ) → len ≤ i → Seeking i best → Lowers known best (All len (bit mask) at)
  seek_end i best l p = lower_same known best p.low (some_all len mask at i) (all_some len mask at i l)
