-- 'It cannot do so where a deterministic leg travels exactly half a ring from an odd coordinate': the walks of a deterministic leg are the same by the old
-- rule and the new one exactly where it does not.
use Prim.Native.Nat.{ℕ, ◌+◌, ◌-◌, ◌*◌, ◌%◌, ◌≤◌, ◌<◌, min}
use native.Mathlib.Omega.{arith}
use mathlib.Core.Path.{◌≡◌, refl, sym, ◌∙◌}
use mathlib.Core.Logic.{◌↔◌}
use mathlib.Core.Bool.{Bool, true, false, ◌&&◌, true≢false}
use lib.Dec.{eqb}
use borrow.Author.Tests.{eqb-true, eqb-false, eq-eqb, ne_eqb}
use Rattle.theory.specs.Alike.{SameWalks}
use Rattle.theory.proofs.Bools.{and_true, or_false}
use Rattle.theory.proofs.Cases.{test, by_le}
use Rattle.shape.specs.declared.shape.Shape.{Shape}
use Rattle.shape.specs.declared.shape.Coords.{Coords}
use Rattle.shape.specs.declared.shape.Dim.{Dim}
use Rattle.shape.specs.declared.shape.Dim.TheVariants.{X, Y, Z}
use Rattle.shape.specs.Shape.{shape_error, extent_of, wrapped_in, coord_of}
use Rattle.shape.specs.Axis.{gap, axis_hops}
use Rattle.shape.proofs.Shapes.{sound}
use Rattle.machine.specs.declared.leg.Mode.TheVariants.{Deterministic}
use Rattle.machine.specs.Number.{node_count, coords_of}
use Rattle.machine.specs.Node.{is_node, coords_answer}
use Rattle.machine.specs.Hop.{along, part, half, rule}
use Rattle.machine.specs.Torus.{torus, leg}
use Rattle.machine.proofs.Laws.{half_is, is_half}
use Rattle.machine.proofs.Rules.{Agree, agree_walks, walks_agree}
use Rattle.conversion.specs.Keeping.{old_rule, old_torus, odd_half_in, odd_half}
use Rattle.conversion.specs.Steps.{half_between, odd_half_at, odd_half_of}

all_true : (x y z : Bool) → x ≡ true → y ≡ true → z ≡ true → (x && (y && z)) ≡ true
all_true x y z ex ey ez = rw (ex, ey, ez)

-- As the code works it out along a dimension.
pub odd_along :
    (s : Shape) (c e : Coords) (d : Dim) (len p q : ℕ) (half ring both r : Bool) →
    p ≡ coord_of c d → len ≡ extent_of s d → q ≡ coord_of e d → half ≡ half_between len p q → ring ≡ wrapped_in s d →
    both ≡ (half && eqb (p % 2) 1) → r ≡ (ring && both) → r ≡ odd_half_at s c e d
unfolding odd_half_at
odd_along s c e d len p q half ring both r ep el eq eh ew eb er = er ∙ rw (eb, eh, el, ep, eq, ew)

-- Half a ring in the words of hops.
half_hops : (len p q : ℕ) → 1 ≤ len → half_between len p q ≡ eqb (2 * axis_hops len true p q) len
unfolding half_between axis_hops
half_hops len p q h =
    test (eqb (2 * p + len) (2 * q))
    (λ t. rw t (sym (eq-eqb (2 * min (gap p q) (len - gap p q)) len (up (eqb-true (2 * p + len) (2 * q) t)))))
    (λ t. rw t (test (eqb (2 * q + len) (2 * p))
    (λ u. rw u (sym (eq-eqb (2 * min (gap p q) (len - gap p q)) len (down (eqb-true (2 * q + len) (2 * p) u)))))
    (λ u. rw u (sym (ne_eqb (2 * min (gap p q) (len - gap p q)) len (neither (eqb-false (2 * p + len) (2 * q) t) (eqb-false (2 * q + len) (2 * p) u)))))))
  where
    up : 2 * p + len ≡ 2 * q → 2 * min (gap p q) (len - gap p q) ≡ len
    up e = omega arith

    down : 2 * q + len ≡ 2 * p → 2 * min (gap p q) (len - gap p q) ≡ len
    down e = omega arith

    neither : (2 * p + len ≡ 2 * q → ⊥) → (2 * q + len ≡ 2 * p → ⊥) → 2 * min (gap p q) (len - gap p q) ≡ len → ⊥
    neither e f z = by_le p q (λ k. e (omega arith)) (λ k. f (omega arith))

-- By the coordinates of two nodes, and as the code gets them.
odd_at : (s : Shape) → shape_error s ≡ 0 → (a t : ℕ) (d : Dim) → odd_half_at s (coords_of s a) (coords_of s t) d ≡ odd_half_in s a t d
unfolding odd_half_at odd_half_in
odd_at s h a t d =
    test (wrapped_in s d)
    (λ r. rw (r, half_hops (extent_of s d) (along s a d) (along s t d) (sound s h d).low))
    (λ r. rw r)

pub odd_coords : (s : Shape) → shape_error s ≡ 0 → (a t : ℕ) (c e : Coords) → c ≡ coords_of s a → e ≡ coords_of s t → odd_half_of s c e ≡ odd_half s a t
unfolding odd_half_of odd_half
odd_coords s h a t c e qc qe = rw (qc, qe, odd_at s h a t X, odd_at s h a t Y, odd_at s h a t Z)

pub coords_is : (s : Shape) (a : ℕ) → is_node s a ≡ true → (c : Coords) → c ≡ coords_answer s a → c ≡ coords_of s a
coords_is s a h c q = q ∙ rw h

module _ (s : Shape) (h : shape_error s ≡ 0) (a t : ℕ) (ha : a < node_count s) (ht : t < node_count s) where
  odd_is : (d : Dim) → odd_half_in s a t d ≡ true → (half s a t d ≡ true) × (rule (along s a d) ≡ false)
  unfolding odd_half_in rule
  odd_is d e =
      let ring = and_true (wrapped_in s d) _ e in
      let both = and_true (eqb (2 * part s a t d) (extent_of s d)) _ ring.1 in
      let odd = eqb-true (along s a d % 2) 1 both.1 in
      (is_half s h a t ha ht d ring.0 (eqb-true _ _ both.0), ne_eqb (along s a d % 2) 0 (λ z. omega arith))

  is_odd : (d : Dim) → half s a t d ≡ true → rule (along s a d) ≡ false → odd_half_in s a t d ≡ true
  unfolding odd_half_in rule
  is_odd d e r =
      let ring = half_is s h a t ha ht d e in
      let odd = eqb-false (along s a d % 2) 0 r in
      let one : along s a d % 2 ≡ 1 = omega arith in
      all_true _ _ _ ring.0 (eq-eqb (2 * part s a t d) (extent_of s d) ring.1) (eq-eqb (along s a d % 2) 1 one)

  -- In every dimension, in the words of the two rules.
  agree_at : (d : Dim) → odd_half_in s a t d ≡ false → half s a t d ≡ true → old_rule (along s a d) ≡ rule (along s a d)
  unfolding old_rule
  agree_at d e k = test (rule (along s a d)) (λ r. sym r) (λ r. absurd (true≢false (sym (is_odd d k r) ∙ e)))

  agree : odd_half s a t ≡ false → Agree s h t ht old_rule rule a
  unfolding odd_half
  agree e X =
      agree_at X (or_false (odd_half_in s a t X) _ e).0
  agree e Y =
      agree_at Y (or_false (odd_half_in s a t Y) _ (or_false (odd_half_in s a t X) _ e).1).0
  agree e Z =
      agree_at Z (or_false (odd_half_in s a t Y) _ (or_false (odd_half_in s a t X) _ e).1).1

  none_odd : Agree s h t ht old_rule rule a → (d : Dim) → odd_half_in s a t d ≡ false
  unfolding old_rule
  none_odd k d =
      test (odd_half_in s a t d)
      (λ e. let o = odd_is d e in absurd (true≢false (k d o.0 ∙ o.1)))
      (λ e. e)

  -- The theorem.
  pub leg_kept_law : (odd_half s a t ≡ false) ↔ SameWalks (old_torus s) (torus s) (leg t Deterministic) a
  unfolding odd_half
  leg_kept_law = (
    λ e. agree_walks s h t ht old_rule rule a ha (agree e),
    λ w. let k = none_odd (walks_agree s h t ht old_rule rule a ha w) in rw (k X, k Y, k Z),
  )
