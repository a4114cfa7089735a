-- Laws of one dimension.
use Prim.Native.Nat.{ℕ, zero, suc, ◌+◌, ◌-◌, ◌*◌, ◌≤◌, ◌<◌, min}
use mathlib.Core.Bool.{Bool, true, false, cond, not}
use mathlib.Core.Path.{◌≡◌, refl, sym, ap, ◌∙◌}
use mathlib.Core.Logic.{◌⊎◌, inl, inr, ⊎_elim}
use native.Mathlib.Omega.{arith}
use lib.Dec.{leb, eqb}
use borrow.Author.Tests.{lt-ltb, le-ltb, le-leb, lt-leb, eqb-true, eq-eqb, ne_eqb, ltb-true, leb-true}
use Rattle.shape.specs.Axis.{gap, axis_hops, has_link, place, axis_useful}
use Rattle.shape.specs.Steps.{open_useful, ahead, ring_useful}
use Rattle.theory.proofs.Bools.{and_true}
use Rattle.theory.proofs.Cases.{by_le}

split_lt : {X : Type 0} (m n : ℕ) → (m < n → X) → (n ≤ m → X) → X
split_lt m n f g = by_le n m g f

pub place_below : (len p : ℕ) (plus : Bool) → p < len → place len p plus < len
unfolding place
place_below len p true h = split_lt (p + 1) len (λ a. rw (lt-ltb (p + 1) len a) a) (λ a. rw (le-ltb (p + 1) len a) (omega arith))
place_below len p false h = split_lt 0 p (λ a. rw (lt-ltb 0 p a) (omega arith)) (λ a. rw (le-ltb 0 p a) (omega arith))

pub axis_below : (len : ℕ) (ring : Bool) (p q : ℕ) → p < len → q < len → axis_hops len ring p q < len
unfolding axis_hops
axis_below len true p q hp hq = omega arith
axis_below len false p q hp hq = omega arith

pub axis_symmetric : (len : ℕ) (ring : Bool) (p q : ℕ) → axis_hops len ring p q ≡ axis_hops len ring q p
unfolding axis_hops
axis_symmetric len true p q = omega arith
axis_symmetric len false p q = omega arith

pub axis_zero : (len : ℕ) (ring : Bool) (p q : ℕ) → p < len → q < len → axis_hops len ring p q ≡ 0 → p ≡ q
unfolding axis_hops
axis_zero len true p q hp hq e = omega arith
axis_zero len false p q hp hq e = omega arith

pub axis_self : (len : ℕ) (ring : Bool) (p : ℕ) → axis_hops len ring p p ≡ 0
unfolding axis_hops
axis_self len true p = omega arith
axis_self len false p = omega arith

-- ---- the two ways along a dimension, as they compute
plus_in : (len p : ℕ) → p + 1 < len → place len p true ≡ p + 1
unfolding place
plus_in len p h = rw (lt-ltb (p + 1) len h)

plus_last : (len p : ℕ) → len ≤ p + 1 → place len p true ≡ 0
unfolding place
plus_last len p h = rw (le-ltb (p + 1) len h)

minus_in : (len p : ℕ) → 0 < p → place len p false ≡ p - 1
unfolding place
minus_in len p h = rw (lt-ltb 0 p h)

minus_first : (len p : ℕ) → p ≤ 0 → place len p false ≡ len - 1
unfolding place
minus_first len p h = rw (le-ltb 0 p h)

-- ---- links of an open dimension and of a ring
open_plus : (len p : ℕ) → p + 1 < len → has_link len false p true ≡ true
unfolding has_link
open_plus len p h = lt-ltb (p + 1) len h

open_plus_none : (len p : ℕ) → len ≤ p + 1 → has_link len false p true ≡ false
unfolding has_link
open_plus_none len p h = le-ltb (p + 1) len h

open_minus : (len p : ℕ) → 0 < p → has_link len false p false ≡ true
unfolding has_link
open_minus len p h = lt-ltb 0 p h

open_minus_none : (len p : ℕ) → p ≤ 0 → has_link len false p false ≡ false
unfolding has_link
open_minus_none len p h = le-ltb 0 p h

ring_link : (len p : ℕ) (plus : Bool) → has_link len true p plus ≡ true
unfolding has_link
ring_link len p plus = refl

-- ---- useful hops without counting the hops between: in an open dimension
pub open_useful_law : (len p q : ℕ) (plus : Bool) → p < len → q < len → axis_useful len false p q plus ≡ open_useful p q plus
unfolding axis_useful axis_hops
open_useful_law len p q true hp hq =
    split_lt p q
    (λ a. rw (open_plus len p (omega arith), plus_in len p (omega arith), lt-ltb p q a) (eq-eqb (gap (p + 1) q + 1) (gap p q) (omega arith)))
    (λ a. rw (le-ltb p q a) (split_lt (p + 1) len
    (λ b. rw (open_plus len p b, plus_in len p b) (ne_eqb (gap (p + 1) q + 1) (gap p q) (λ e. omega arith)))
    (λ b. rw (open_plus_none len p b))))
open_useful_law len p q false hp hq =
    split_lt q p
    (λ a. rw (open_minus len p (omega arith), minus_in len p (omega arith), lt-ltb q p a) (eq-eqb (gap (p - 1) q + 1) (gap p q) (omega arith)))
    (λ a. rw (le-ltb q p a) (split_lt 0 p
    (λ b. rw (open_minus len p b, minus_in len p b) (ne_eqb (gap (p - 1) q + 1) (gap p q) (λ e. omega arith)))
    (λ b. rw (open_minus_none len p b))))

-- ---- and round a ring, by the hops going plus
pub record Ahead (len p q u : ℕ) : Type 0 where
  pub below : u < len
  pub up : p ≤ q → p + u ≡ q
  pub round : q < p → p + u ≡ q + len

pub ahead_is : (len p q : ℕ) → p < len → q < len → Ahead len p q (ahead len p q)
unfolding ahead
ahead_is len p q hp hq =
    by_le p q
    (λ a. rw (le-leb p q a) (record { below = omega arith; up = λ _. omega arith; round = λ h. absurd (omega arith) }))
    (λ a. rw (lt-leb p q a) (record { below = omega arith; up = λ h. absurd (omega arith); round = λ _. omega arith }))

-- The hops are those of the smaller of the two ways round.
pub ring_hops : (len p q u : ℕ) → p < len → q < len → Ahead len p q u → axis_hops len true p q ≡ min u (len - u)
unfolding axis_hops
ring_hops len p q u hp hq w = by_le p q (λ a. let e = w.up a in omega arith) (λ a. let e = w.round a in omega arith)

-- A hop going plus leaves one less of that way, a hop going minus one more.
plus_ahead : (len p q u : ℕ) → p < len → q < len → Ahead len p q (u + 1) → Ahead len (place len p true) q u
plus_ahead len p q u hp hq w =
    split_lt (p + 1) len
    (λ a. rw (plus_in len p a) (by_le p q
    (λ b. let e = w.up b in record { below = omega (arith, w.below); up = λ _. omega arith; round = λ h. absurd (omega arith) })
    (λ b. let e = w.round b in record { below = omega (arith, w.below); up = λ h. absurd (omega arith); round = λ _. omega arith })))
    (λ a. rw (plus_last len p a) (by_le p q
    (λ b. let e = w.up b in absurd (omega arith))
    (λ b. let e = w.round b in record { below = omega (arith, w.below); up = λ _. omega arith; round = λ h. absurd (omega arith) })))

minus_ahead : (len p q u : ℕ) → p < len → q < len → u + 1 < len → Ahead len p q u → Ahead len (place len p false) q (u + 1)
minus_ahead len p q u hp hq k w =
    split_lt 0 p
    (λ a. rw (minus_in len p a) (by_le p q
    (λ b. let e = w.up b in record { below = k; up = λ _. omega arith; round = λ h. absurd (omega arith) })
    (λ b. let e = w.round b in record { below = k; up = λ h. absurd (omega arith); round = λ _. omega arith })))
    (λ a. rw (minus_first len p a) (let e = w.up (omega arith) in record { below = k; up = λ h. omega arith; round = λ h. omega arith }))

-- From one place after q going minus, nothing is left.
minus_whole : (len p q u : ℕ) → p < len → q < len → u + 1 ≡ len → Ahead len p q u → Ahead len (place len p false) q 0
minus_whole len p q u hp hq k w =
    split_lt 0 p
    (λ a. rw (minus_in len p a) (by_le p q
    (λ b. let e = w.up b in absurd (omega arith))
    (λ b. let e = w.round b in record { below = omega arith; up = λ _. omega arith; round = λ h. absurd (omega arith) })))
    (λ a. rw (minus_first len p a) (let e = w.up (omega arith) in record { below = omega arith; up = λ _. omega arith; round = λ h. absurd (omega arith) }))

-- At q no hop is useful; elsewhere plus up to half the ring and minus from half the ring on.
module _ (len p q : ℕ) (hp : p < len) (hq : q < len) (u : ℕ) (w : Ahead len p q u) where
  none_useful : (plus : Bool) → u ≡ 0 → axis_useful len true p q plus ≡ ring_useful len u plus
  unfolding axis_useful has_link
  none_useful plus e = rw (ring_hops len p q u hp hq w, eq-eqb u 0 e) (ne_eqb (axis_hops len true (place len p plus) q + 1) (min u (len - u)) (λ f. omega arith))

  plus_useful : 0 < u → axis_useful len true p q true ≡ ring_useful len u true
  unfolding axis_useful has_link
  plus_useful h =
      let back : u - 1 + 1 ≡ u = omega arith in
      let next = ring_hops len (place len p true) q (u - 1) (place_below len p true hp) hq (plus_ahead len p q (u - 1) hp hq (rw back w)) in
      rw (ring_hops len p q u hp hq w, next, ne_eqb u 0 (λ e. omega arith))
      (by_le (2 * u) len
      (λ a. rw (le-leb (2 * u) len a) (eq-eqb (min (u - 1) (len - (u - 1)) + 1) (min u (len - u)) (omega arith)))
      (λ a. rw (lt-leb (2 * u) len a) (ne_eqb (min (u - 1) (len - (u - 1)) + 1) (min u (len - u)) (λ e. omega arith))))

  minus_useful : 0 < u → axis_useful len true p q false ≡ ring_useful len u false
  unfolding axis_useful has_link
  minus_useful h =
      rw (ring_hops len p q u hp hq w, ne_eqb u 0 (λ e. omega arith))
      (split_lt (u + 1) len
      (λ k.
      let next = ring_hops len (place len p false) q (u + 1) (place_below len p false hp) hq (minus_ahead len p q u hp hq k w) in
      rw next (by_le len (2 * u)
      (λ a. rw (le-leb len (2 * u) a) (eq-eqb (min (u + 1) (len - (u + 1)) + 1) (min u (len - u)) (omega arith)))
      (λ a. rw (lt-leb len (2 * u) a) (ne_eqb (min (u + 1) (len - (u + 1)) + 1) (min u (len - u)) (λ e. omega arith)))))
      (λ k.
      let next = ring_hops len (place len p false) q 0 (place_below len p false hp) hq (minus_whole len p q u hp hq (omega (arith, w.below)) w) in
      rw (next, le-leb len (2 * u) (omega (arith, w.below))) (eq-eqb (min 0 (len - 0) + 1) (min u (len - u)) (omega (arith, w.below)))))

pub ring_useful_law : (len p q : ℕ) (plus : Bool) → p < len → q < len → axis_useful len true p q plus ≡ ring_useful len (ahead len p q) plus
ring_useful_law len p q plus hp hq = by_le 1 (ahead len p q) (some plus) (λ a. none_useful len p q hp hq _ (ahead_is len p q hp hq) plus (omega arith))
  where
    some : (plus : Bool) → 1 ≤ ahead len p q → axis_useful len true p q plus ≡ ring_useful len (ahead len p q) plus
    some true h = plus_useful len p q hp hq _ (ahead_is len p q hp hq) h
    some false h = minus_useful len p q hp hq _ (ahead_is len p q hp hq) h

pub useful_is : (len : ℕ) (ring : Bool) (p q : ℕ) (plus : Bool) → p < len → q < len → axis_useful len ring p q plus ≡ cond ring (ring_useful len (ahead len p q) plus) (open_useful p q plus)
useful_is len true p q plus hp hq = ring_useful_law len p q plus hp hq
useful_is len false p q plus hp hq = open_useful_law len p q plus hp hq

-- At exactly half of a wrapped ring both directions are useful, and nowhere else.
half_ahead : (len p q : ℕ) → p < len → q < len → 2 * axis_hops len true p q ≡ len → 2 * ahead len p q ≡ len
half_ahead len p q hp hq e = let w = ahead_is len p q hp hq in omega (arith, w.below, ring_hops len p q (ahead len p q) hp hq w)

pub half_both : (len p q : ℕ) (plus : Bool) → p < len → q < len → 2 * axis_hops len true p q ≡ len → axis_useful len true p q plus ≡ true
half_both len p q plus hp hq e = let u = half_ahead len p q hp hq e in rw (ring_useful_law len p q plus hp hq, ne_eqb (ahead len p q) 0 (λ z. omega arith)) (both plus u)
  where
    both : (plus : Bool) → 2 * ahead len p q ≡ len → cond plus (leb (2 * ahead len p q) len) (leb len (2 * ahead len p q)) ≡ true
    both true u = le-leb (2 * ahead len p q) len (omega arith)
    both false u = le-leb len (2 * ahead len p q) (omega arith)

pub both_half : (len : ℕ) (ring : Bool) (p q : ℕ) → p < len → q < len → axis_useful len ring p q true ≡ true → axis_useful len ring p q false ≡ true → (ring ≡ true) × (2 * axis_hops len ring p q ≡ len)
both_half len false p q hp hq up down =
    absurd (omega (arith, ltb-true p q (sym (open_useful_law len p q true hp hq) ∙ up), ltb-true q p (sym (open_useful_law len p q false hp hq) ∙ down)))
both_half len true p q hp hq up down =
    let a = (and_true (not (eqb (ahead len p q) 0)) (leb (2 * ahead len p q) len) (rw (ring_useful_law len p q true hp hq) at up)).1 in
    let b = (and_true (not (eqb (ahead len p q) 0)) (leb len (2 * ahead len p q)) (rw (ring_useful_law len p q false hp hq) at down)).1 in
    (refl, omega (arith, ring_hops len p q (ahead len p q) hp hq (ahead_is len p q hp hq), leb-true (2 * ahead len p q) len a, leb-true len (2 * ahead len p q) b))

-- Toward another place of the dimension some direction is useful.
pub axis_some : (len : ℕ) (ring : Bool) (p q : ℕ) → p < len → q < len → (p ≡ q → ⊥) → (axis_useful len ring p q true ≡ true) ⊎ (axis_useful len ring p q false ≡ true)
axis_some len false p q hp hq ne =
    rw (open_useful_law len p q true hp hq, open_useful_law len p q false hp hq)
    (split_lt p q (λ a. inl (lt-ltb p q a)) (λ a. inr (lt-ltb q p (omega arith))))
axis_some len true p q hp hq ne =
    let w = ahead_is len p q hp hq in
    let far : ahead len p q ≡ 0 → ⊥ = λ e. by_le p q (λ a. omega (arith, w.up a)) (λ a. omega (arith, w.round a)) in
    rw (ring_useful_law len p q true hp hq, ring_useful_law len p q false hp hq, ne_eqb (ahead len p q) 0 far)
    (by_le (2 * ahead len p q) len (λ a. inl (le-leb (2 * ahead len p q) len a)) (λ a. inr (le-leb len (2 * ahead len p q) (omega arith))))

-- ---- back over the same link
pub back_place : (len p : ℕ) (plus : Bool) → p < len → place len (place len p plus) (not plus) ≡ p
back_place len p true h =
    split_lt (p + 1) len
    (λ a. rw (plus_in len p a) (minus_in len (p + 1) (omega arith) ∙ omega arith))
    (λ a. rw (plus_last len p a) (minus_first len 0 (omega arith) ∙ omega arith))
back_place len p false h =
    split_lt 0 p
    (λ a. rw (minus_in len p a) (plus_in len (p - 1) (omega arith) ∙ omega arith))
    (λ a. rw (minus_first len p a) (plus_last len (len - 1) (omega arith) ∙ omega arith))

open_plus_of : (len p : ℕ) → has_link len false p true ≡ true → p + 1 < len
unfolding has_link
open_plus_of len p e = ltb-true (p + 1) len e

open_minus_of : (len p : ℕ) → has_link len false p false ≡ true → 0 < p
unfolding has_link
open_minus_of len p e = ltb-true 0 p e

pub back_link : (len : ℕ) (ring : Bool) (p : ℕ) (plus : Bool) → p < len → has_link len ring p plus ≡ true → has_link len ring (place len p plus) (not plus) ≡ true
back_link len true p plus h l = ring_link len (place len p plus) (not plus)
back_link len false p true h l = let a = open_plus_of len p l in rw (plus_in len p a) (open_minus len (p + 1) (omega arith))
back_link len false p false h l = let a = open_minus_of len p l in rw (minus_in len p a) (open_plus len (p - 1) (omega arith))

-- ---- a hop changes the hops to any place by one at most
round_step : (len p q : ℕ) (plus : Bool) (u : ℕ) → p < len → q < len → Ahead len p q u → axis_hops len true p q ≤ axis_hops len true (place len p plus) q + 1
round_step len p q true u hp hq w =
    by_le 1 u
    (λ k.
    let back : u - 1 + 1 ≡ u = omega arith in
    rw (ring_hops len p q u hp hq w, ring_hops len (place len p true) q (u - 1) (place_below len p true hp) hq (plus_ahead len p q (u - 1) hp hq (rw back w))) (omega arith))
    (λ k. rw (ring_hops len p q u hp hq w) (omega arith))
round_step len p q false u hp hq w =
    split_lt (u + 1) len
    (λ k. rw (ring_hops len p q u hp hq w, ring_hops len (place len p false) q (u + 1) (place_below len p false hp) hq (minus_ahead len p q u hp hq k w)) (omega arith))
    (λ k. rw (ring_hops len p q u hp hq w) (omega (arith, w.below)))

pub axis_step : (len : ℕ) (ring : Bool) (p q : ℕ) (plus : Bool) → p < len → q < len → has_link len ring p plus ≡ true → axis_hops len ring p q ≤ axis_hops len ring (place len p plus) q + 1
unfolding axis_hops
axis_step len true p q plus hp hq l = round_step len p q plus (ahead len p q) hp hq (ahead_is len p q hp hq)
axis_step len false p q true hp hq l = rw (plus_in len p (open_plus_of len p l)) (omega arith)
axis_step len false p q false hp hq l = let a = open_minus_of len p l in rw (minus_in len p a) (omega arith)

-- ---- a useful hop, and ways by another place
pub useful_has : (len : ℕ) (ring : Bool) (p q : ℕ) (plus : Bool) → axis_useful len ring p q plus ≡ true → has_link len ring p plus ≡ true
unfolding axis_useful
useful_has len ring p q plus h = (and_true (has_link len ring p plus) _ h).0

pub useful_less : (len : ℕ) (ring : Bool) (p q : ℕ) (plus : Bool) → axis_useful len ring p q plus ≡ true → axis_hops len ring (place len p plus) q + 1 ≡ axis_hops len ring p q
unfolding axis_useful
useful_less len ring p q plus h = eqb-true _ _ (and_true (has_link len ring p plus) _ h).1

-- No way by another place is shorter.
pub axis_triangle : (k len : ℕ) (ring : Bool) (p c q : ℕ) → p < len → c < len → q < len → axis_hops len ring p c ≡ k → axis_hops len ring p q ≤ k + axis_hops len ring c q
axis_triangle zero len ring p c q hp hc hq e = rw (axis_zero len ring p c hp hc e) (omega arith)
axis_triangle (suc k) len ring p c q hp hc hq e =
    let ne : p ≡ c → ⊥ = λ w. omega (arith, ap (λ (m : ℕ). axis_hops len ring m c) w, axis_self len ring c) in
    let by : (plus : Bool) → axis_useful len ring p c plus ≡ true → axis_hops len ring p q ≤ suc k + axis_hops len ring c q = λ plus u.
    let less = useful_less len ring p c plus u in
    omega (arith, axis_triangle k len ring (place len p plus) c q (place_below len p plus hp) hc hq (omega arith), axis_step len ring p q plus hp hq (useful_has len ring p c plus u)) in
    ⊎_elim (by true) (by false) (axis_some len ring p c hp hc ne)

-- ---- where the hops of a useful way lead: to q, counted on past the end of the dimension where they go round
pub plus_leads : (len : ℕ) (ring : Bool) (p q : ℕ) → p < len → q < len → axis_useful len ring p q true ≡ true → (p + axis_hops len ring p q ≡ q) ⊎ (p + axis_hops len ring p q ≡ q + len)
unfolding axis_hops
plus_leads len false p q hp hq e = let a = ltb-true p q (sym (open_useful_law len p q true hp hq) ∙ e) in inl (omega arith)
plus_leads len true p q hp hq e =
    let w = ahead_is len p q hp hq in
    let a = leb-true (2 * ahead len p q) len (and_true (not (eqb (ahead len p q) 0)) (leb (2 * ahead len p q) len) (sym (ring_useful_law len p q true hp hq) ∙ e)).1 in
    let n = ring_hops len p q (ahead len p q) hp hq w in
    by_le p q (λ b. inl (omega (arith, w.up b))) (λ b. inr (omega (arith, w.round b)))

pub minus_leads : (len : ℕ) (ring : Bool) (p q : ℕ) → p < len → q < len → axis_useful len ring p q false ≡ true → (q + axis_hops len ring p q ≡ p) ⊎ (q + axis_hops len ring p q ≡ p + len)
unfolding axis_hops
minus_leads len false p q hp hq e = let a = ltb-true q p (sym (open_useful_law len p q false hp hq) ∙ e) in inl (omega arith)
minus_leads len true p q hp hq e =
    let w = ahead_is len p q hp hq in
    let a = leb-true len (2 * ahead len p q) (and_true (not (eqb (ahead len p q) 0)) (leb len (2 * ahead len p q)) (sym (ring_useful_law len p q false hp hq) ∙ e)).1 in
    let n = ring_hops len p q (ahead len p q) hp hq w in
    by_le p q (λ b. inr (omega (arith, w.up b, w.below))) (λ b. inl (omega (arith, w.round b, w.below)))
