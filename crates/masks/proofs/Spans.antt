-- The places between two: as a range, and as a box of nodes.
use Prim.Native.Nat.{ℕ, ◌+◌, ◌-◌, ◌/◌, ◌^◌, ◌≤◌, ◌<◌}
use native.Mathlib.Omega.{arith}
use mathlib.Core.Path.{◌≡◌, refl, sym, ap, ◌∙◌}
use mathlib.Core.Bool.{Bool, true, false, cond, ◌&&◌, ◌||◌}
use lib.Dec.{ltb, leb, eqb}
use borrow.Author.Tests.{lt-ltb, le-ltb, le-leb, lt-leb, eq-eqb, ne_eqb}
use Rattle.theory.proofs.Cases.{by_le}
use Rattle.shape.specs.declared.shape.Shape.{Shape}
use Rattle.shape.specs.declared.shape.Coords.{Coords}
use Rattle.shape.specs.declared.shape.Dim.TheVariants.{X, Y, Z}
use Rattle.shape.specs.Shape.{shape_error, wrapped_in}
use Rattle.shape.specs.Steps.{ahead}
use Rattle.shape.proofs.AxisLaws.{ahead_is}
use Rattle.shape.proofs.Shapes.{sound}
use Rattle.machine.specs.Number.{Inside}
use Rattle.legs.specs.Between.{between}
use Rattle.rows.specs.Bits.{bit, row_of}
use Rattle.rows.specs.Rows.{in_product}
use Rattle.rows.proofs.Bits.{row_bit}
use Rattle.rows.proofs.Combined.{row_same}
use Rattle.masks.specs.Ranges.{in_range}
use Rattle.masks.specs.Span.{full_mask, between_mask, box_of}
use Rattle.masks.proofs.Ranges.{ring_between, open_between}

-- ---- the places between, by the place
ring_place : (len w u : ℕ) → w < len → u < len →
    (in_range w (len / 2 + 1) u || in_range (len - len / 2) (cond (eqb w 0) len (w + 1)) u) ≡ (in_range 0 (cond (leb u (len / 2)) (u + 1) 1) w || in_range (cond (leb (len - len / 2) u) u len) len w)
unfolding in_range
ring_place len w u hw hu =
    rw (le-leb 0 w (omega arith), lt-ltb w len hw) (by_le u (len / 2)
    (λ a. rw (le-leb u (len / 2) a, lt-ltb u (len / 2 + 1) (omega arith)) (by_le w u
    (λ b. rw (le-leb w u b, lt-ltb w (u + 1) (omega arith)))
    (λ b. rw (lt-leb w u b, le-ltb w (u + 1) (omega arith), ne_eqb w 0 (λ k. omega arith), lt-ltb u (w + 1) (omega arith)) (by_le (len - len / 2) u
    (λ d. rw (le-leb (len - len / 2) u d, le-leb u w (omega arith)))
    (λ d. rw (lt-leb (len - len / 2) u d, lt-leb len w hw))))))
    (λ a. rw (lt-leb u (len / 2) a, le-ltb u (len / 2 + 1) (omega arith), le-leb (len - len / 2) u (omega arith), none (leb w u)) (by_le w 0
    (λ b. rw (eq-eqb w 0 (omega arith), lt-ltb u len hu, lt-ltb w 1 (omega arith)))
    (λ b. rw (ne_eqb w 0 (λ k. omega arith), le-ltb w 1 (omega arith)) (by_le u w
    (λ d. rw (lt-ltb u (w + 1) (omega arith), le-leb u w d))
    (λ d. rw (le-ltb u (w + 1) (omega arith), lt-leb u w d)))))))
  where
    none : (b : Bool) → (b && false) ≡ false
    none true = refl
    none false = refl

pub ring_span :
    (len p q u top low r : ℕ) → p < len → q < len → u ≡ ahead len p q → top ≡ cond (leb u (len / 2)) (u + 1) 1 → low ≡ cond (leb (len - len / 2) u) u len →
    r ≡ row_of (λ c. in_range 0 top (ahead len p c) || in_range low len (ahead len p c)) len → r ≡ row_of (λ c. between len true c p q) len
ring_span len p q u top low r hp hq eu et el e =
    e
    ∙ row_same _ _ len
    (λ c l.
    rw (et, el, eu)
    (sym (ring_between len c p q l hp hq ∙ ring_place len (ahead len p c) (ahead len p q) (ahead_is len p c hp l).below (ahead_is len p q hp hq).below)))

pub open_up : (len p q r : ℕ) → len ≤ 16 → p ≤ q → q < len → ((n : ℕ) → q + 1 ≤ n → n ≤ 16 → r ≡ row_of (in_range p (q + 1)) n) → r ≡ row_of (λ c. between len false c p q) len
unfolding in_range
open_up len p q r h a hq e = e len (omega arith) h ∙ row_same _ _ len (λ c l. sym (open_between len c p q l (omega arith) hq ∙ at c l))
  where
    at : (c : ℕ) → c < len → (in_range c (cond (leb p c) len 0) q || in_range 0 (cond (leb c p) (c + 1) 0) q) ≡ (leb p c && ltb c (q + 1))
    at c l =
        rw (le-leb 0 q (omega arith)) (by_le p c
        (λ b. rw (le-leb p c b, lt-ltb q len hq) (by_le c q
        (λ d. rw (le-leb c q d, lt-ltb c (q + 1) (omega arith)))
        (λ d. rw (lt-leb c q d, le-ltb c (q + 1) (omega arith), lt-leb c p (omega arith), le-ltb q 0 (omega arith)))))
        (λ b. rw (lt-leb p c b, le-ltb q 0 (omega arith), le-leb c p (omega arith), le-ltb q (c + 1) (omega arith)) (none (leb c q))))
      where
        none : (b : Bool) → ((b && false) || false) ≡ false
        none true = refl
        none false = refl

pub open_down : (len p q r : ℕ) → len ≤ 16 → q < p → p < len → ((n : ℕ) → p + 1 ≤ n → n ≤ 16 → r ≡ row_of (in_range q (p + 1)) n) → r ≡ row_of (λ c. between len false c p q) len
unfolding in_range
open_down len p q r h a hp e = e len (omega arith) h ∙ row_same _ _ len (λ c l. sym (open_between len c p q l hp (omega arith) ∙ at c l))
  where
    at : (c : ℕ) → c < len → (in_range c (cond (leb p c) len 0) q || in_range 0 (cond (leb c p) (c + 1) 0) q) ≡ (leb q c && ltb c (p + 1))
    at c l =
        rw (le-leb 0 q (omega arith)) (by_le c p
        (λ b. rw (le-leb c p b, lt-ltb c (p + 1) (omega arith)) (by_le q c
        (λ d. rw (le-leb q c d, lt-ltb q (c + 1) (omega arith)) (or_true (leb c q && ltb q (cond (leb p c) len 0))))
        (λ d. rw (lt-leb q c d, le-ltb q (c + 1) (omega arith), lt-leb p c (omega arith), le-ltb q 0 (omega arith)) (none (leb c q)))))
        (λ b. rw (lt-leb c p b, le-ltb c (p + 1) (omega arith), lt-leb c q (omega arith), le-ltb q 0 (omega arith)) (sym (and_false (leb q c)))))
      where
        or_true : (b : Bool) → (b || true) ≡ true
        or_true true = refl
        or_true false = refl

        none : (b : Bool) → ((b && false) || false) ≡ false
        none true = refl
        none false = refl

        and_false : (b : Bool) → (b && false) ≡ false
        and_false true = refl
        and_false false = refl

-- ---- the answer for every number
module _ (len : ℕ) (ring : Bool) (p q : ℕ) where
  pub too_long : 16 < len → 0 ≡ between_mask len ring p q
  unfolding between_mask
  too_long h = rw (lt-leb len 16 h)

  pub no_start : len ≤ p → 0 ≡ between_mask len ring p q
  unfolding between_mask
  no_start h = rw (le-ltb p len h) (none (leb len 16))
    where
      none : (b : Bool) → 0 ≡ cond (b && false) (row_of (λ c. between len ring c p q) len) 0
      none true = refl
      none false = refl

  pub no_end : len ≤ q → 0 ≡ between_mask len ring p q
  unfolding between_mask
  no_end h = rw (le-ltb q len h) (none (leb len 16) (ltb p len))
    where
      none : (a b : Bool) → 0 ≡ cond (a && (b && false)) (row_of (λ c. between len ring c p q) len) 0
      none true true = refl
      none true false = refl
      none false b = refl

  pub both_ends : (r : ℕ) → len ≤ 16 → p < len → q < len → r ≡ row_of (λ c. between len ring c p q) len → r ≡ between_mask len ring p q
  unfolding between_mask
  both_ends r h hp hq e = e ∙ rw (le-leb len 16 h, lt-ltb p len hp, lt-ltb q len hq)

  -- Its bits are the places between.
  pub between_bit : (c : ℕ) → len ≤ 16 → p < len → q < len → c < len → bit (between_mask len ring p q) c ≡ between len ring c p q
  between_bit c h hp hq hc = ap (λ (v : ℕ). bit v c) (sym (both_ends _ h hp hq refl)) ∙ row_bit (λ c. between len ring c p q) len c hc

pub full_is : (len r : ℕ) → len ≤ 16 → r ≡ 2 ^ len - 1 → r ≡ full_mask len
unfolding full_mask
full_is len r h e = e ∙ rw (le-leb len 16 h)

pub full_none : (len : ℕ) → 16 < len → 0 ≡ full_mask len
unfolding full_mask
full_none len h = rw (lt-leb len 16 h)

-- ---- nodes
module _ (s : Shape) (h : shape_error s ≡ 0) where
  -- A node is in the box of two others exactly if it lies between them in each dimension.
  pub box_inside :
      (a t c : Coords) → Inside s a → Inside s t → Inside s c →
      in_product (box_of s a t).x (box_of s a t).y (box_of s a t).z c
      ≡ (between s.x (wrapped_in s X) c.x a.x t.x && (between s.y (wrapped_in s Y) c.y a.y t.y && between s.z (wrapped_in s Z) c.z a.z t.z))
  unfolding in_product box_of
  box_inside a t c ia it ic = rw (
    between_bit s.x (wrapped_in s X) a.x t.x c.x (sound s h X).high ia.x it.x ic.x,
    between_bit s.y (wrapped_in s Y) a.y t.y c.y (sound s h Y).high ia.y it.y ic.y,
    between_bit s.z (wrapped_in s Z) a.z t.z c.z (sound s h Z).high ia.z it.z ic.z,
  )
