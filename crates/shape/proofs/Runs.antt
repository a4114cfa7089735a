-- The way along one dimension that a deterministic leg takes: chosen at its start, and kept to its end.
use Prim.Native.Nat.{ℕ, ◌*◌, ◌≤◌, ◌<◌}
use mathlib.Core.Bool.{Bool, true, false, false≢true, cond, not, ◌&&◌}
use mathlib.Core.Path.{◌≡◌, refl, sym, ap, ◌∙◌}
use mathlib.Core.Logic.{◌⊎◌, ⊎_elim}
use native.Mathlib.Omega.{arith}
use lib.Dec.{ltb, eqb}
use borrow.Author.Tests.{eq-eqb, ne_eqb, lt-ltb, le-ltb, le-leb, lt-leb}
use Rattle.theory.proofs.Cases.{test, by_le, by_order}
use Rattle.shape.specs.Axis.{axis_hops, place, axis_useful}
use Rattle.shape.specs.Steps.{ahead, ring_useful, ring_goes, goes}
use Rattle.shape.proofs.AxisLaws.{Ahead, ahead_is, axis_some, place_below, back_place, useful_less, ring_useful_law, open_useful_law}

ahead_one : (len p q u v : ℕ) → Ahead len p q u → Ahead len p q v → u ≡ v
ahead_one len p q u v a b = by_le p q (λ h. omega (arith, a.up h, b.up h)) (λ h. omega (arith, a.round h, b.round h))

pub ahead_of : (len p q u : ℕ) → p < len → q < len → Ahead len p q u → ahead len p q ≡ u
ahead_of len p q u hp hq w = ahead_one len p q _ u (ahead_is len p q hp hq) w

-- ---- the way that is taken
-- Of two ways of which one is open, or both: by `tie` where both are.
pub one_taken : (a b tie plus : Bool) → (a ≡ true) ⊎ (b ≡ true) → cond (a && b) tie a ≡ plus → cond plus a b ≡ true
one_taken true true tie true some e = refl
one_taken true true tie false some e = refl
one_taken true false tie true some e = refl
one_taken true false tie false some e = absurd (false≢true (sym e))
one_taken false b tie true some e = absurd (false≢true e)
one_taken false b tie false some e = ⊎_elim (λ z. absurd (false≢true z)) (λ z. z) some

module _ (ties : ℕ → Bool) (len : ℕ) where
  -- The way goes in a useful direction.
  pub goes_useful : (ring : Bool) (p q : ℕ) (plus : Bool) → p < len → q < len → (p ≡ q → ⊥) → goes ties len ring p q ≡ plus → axis_useful len ring p q plus ≡ true
  unfolding goes
  goes_useful ring p q true hp hq ne e = one_taken _ (axis_useful len ring p q false) (ties p) true (axis_some len ring p q hp hq ne) e
  goes_useful ring p q false hp hq ne e = one_taken (axis_useful len ring p q true) _ (ties p) false (axis_some len ring p q hp hq ne) e

  -- Where the other direction is not useful, it goes in this one.
  goes_only : (ring : Bool) (p q : ℕ) (plus : Bool) → p < len → q < len → (p ≡ q → ⊥) → axis_useful len ring p q (not plus) ≡ false → goes ties len ring p q ≡ plus
  unfolding goes
  goes_only ring p q true hp hq ne e = rw e (⊎_elim (λ z. rw z) (λ z. absurd (false≢true (sym e ∙ z))) (axis_some len ring p q hp hq ne))
  goes_only ring p q false hp hq ne e = rw e

-- ---- for places that exist: round a ring by the hops going plus, u, and in an open dimension by the order of the places
ring_way : (len u : ℕ) (tie : Bool) → cond (ring_useful len u true && ring_useful len u false) tie (ring_useful len u true) ≡ ring_goes len u tie
ring_way len u tie =
    test (eqb u 0)
    (λ z. rw z)
    (λ z. rw z (by_order (2 * u) len
    (λ a. rw (le-leb (2 * u) len (omega arith), lt-leb len (2 * u) a, ne_eqb (2 * u) len (λ e. omega arith), lt-ltb (2 * u) len a))
    (λ a. rw (le-leb (2 * u) len (omega arith), le-leb len (2 * u) (omega arith), eq-eqb (2 * u) len a))
    (λ a. rw (lt-leb (2 * u) len a, ne_eqb (2 * u) len (λ e. omega arith), le-ltb (2 * u) len (omega arith)))))

open_way : (p q : ℕ) (tie : Bool) → cond (ltb p q && ltb q p) tie (ltb p q) ≡ ltb p q
open_way p q tie = by_le q p (λ a. rw (le-ltb p q a)) (λ a. rw (lt-ltb p q a, le-ltb q p (omega arith)))

pub goes_is : (ties : ℕ → Bool) (len : ℕ) (ring : Bool) (p q : ℕ) → p < len → q < len → goes ties len ring p q ≡ cond ring (ring_goes len (ahead len p q) (ties p)) (ltb p q)
unfolding goes
goes_is ties len true p q hp hq = rw (ring_useful_law len p q true hp hq, ring_useful_law len p q false hp hq) (ring_way len (ahead len p q) (ties p))
goes_is ties len false p q hp hq = rw (open_useful_law len p q true hp hq, open_useful_law len p q false hp hq) (open_way p q (ties p))

-- ---- once under way
-- Half a ring is the most.
most_half : (len p q : ℕ) → p < len → q < len → 2 * axis_hops len true p q ≤ len
unfolding axis_hops
most_half len p q hp hq = omega arith

module _ (len : ℕ) (ring : Bool) (p q : ℕ) (plus : Bool) (hp : p < len) (hq : q < len) (u : axis_useful len ring p q plus ≡ true) where
  -- After a useful hop the hop back is not useful, so that no half of a ring is left.
  pub back_useless : axis_useful len ring (place len p plus) q (not plus) ≡ false
  back_useless =
      test (axis_useful len ring (place len p plus) q (not plus))
      (λ b. absurd (omega (arith, useful_less len ring p q plus u, useful_less len ring (place len p plus) q (not plus) b, ap (λ (n : ℕ). axis_hops len ring n q) (back_place len p plus hp))))
      (λ b. b)

  -- Less than half of it is left.
  pub under_half : ring ≡ true → 2 * axis_hops len ring (place len p plus) q < len
  under_half r = let most : 2 * axis_hops len ring p q ≤ len = rw r (most_half len p q hp hq) in omega (arith, useful_less len ring p q plus u)

-- The way that is chosen at its start is kept.
pub kept :
    (ties : ℕ → Bool) (len : ℕ) (ring : Bool) (p q : ℕ) (plus : Bool) → p < len → q < len → (p ≡ q → ⊥) → goes ties len ring p q ≡ plus →
    (place len p plus ≡ q → ⊥) → goes ties len ring (place len p plus) q ≡ plus
kept ties len ring p q plus hp hq ne e more =
    goes_only ties len ring (place len p plus) q plus (place_below len p plus hp) hq more (back_useless len ring p q plus hp hq (goes_useful ties len ring p q plus hp hq ne e))
