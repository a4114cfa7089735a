-- One dimension by ranges: which places lie between two, and toward which a hop is useful, by the hops going plus from one of them.
use Prim.Native.Nat.{ℕ, ◌+◌, ◌-◌, ◌*◌, ◌/◌, ◌≤◌, ◌<◌, min}
use native.Mathlib.Omega.{arith}
use mathlib.Core.Path.{◌≡◌, refl, sym, ◌∙◌}
use mathlib.Core.Bool.{Bool, true, false, cond, not, ◌&&◌, ◌||◌}
use lib.Dec.{leb, eqb}
use borrow.Author.Tests.{lt-ltb, le-ltb, le-leb, lt-leb, eq-eqb, ne_eqb}
use Rattle.theory.proofs.Cases.{by_le, by_order}
use Rattle.shape.specs.Axis.{gap, axis_hops, axis_useful}
use Rattle.shape.specs.Steps.{ahead}
use Rattle.shape.proofs.AxisLaws.{axis_symmetric, Ahead, ahead_is, ring_useful_law, open_useful_law}
use Rattle.legs.specs.Between.{between}
use Rattle.masks.specs.Ranges.{in_range}

-- ---- round a ring
ring_hops : (len p q u : ℕ) → p < len → q < len → Ahead len p q u → axis_hops len true p q ≡ min u (len - u)
unfolding axis_hops
ring_hops len p q u hp hq w = by_le p q (λ a. let e = w.up a in omega arith) (λ a. let e = w.round a in omega arith)

-- The hops going plus add up.
pub record Sum (len w v u : ℕ) : Type 0 where
  pub below_w : w < len
  pub below_v : v < len
  pub below_u : u < len
  pub near : w ≤ u → w + v ≡ u
  pub far : u < w → w + v ≡ u + len

ahead_sum : (len p c q : ℕ) → p < len → c < len → q < len → Sum len (ahead len p c) (ahead len c q) (ahead len p q)
ahead_sum len p c q hp hc hq = record { below_w = from_c.below; below_v = to_q.below; below_u = whole.below; near = λ h. sum.0 h; far = λ h. sum.1 h }
  where
    from_c : Ahead len p c (ahead len p c)
    from_c = ahead_is len p c hp hc

    to_q : Ahead len c q (ahead len c q)
    to_q = ahead_is len c q hc hq

    whole : Ahead len p q (ahead len p q)
    whole = ahead_is len p q hp hq

    sum : (ahead len p c ≤ ahead len p q → ahead len p c + ahead len c q ≡ ahead len p q) × (ahead len p q < ahead len p c → ahead len p c + ahead len c q ≡ ahead len p q + len)
    sum =
        let bw = from_c.below in
        let bv = to_q.below in
        let bu = whole.below in
        by_le p c
        (λ a. let x = from_c.up a in by_le c q
        (λ b. let y = to_q.up b in by_le p q (λ d. let z = whole.up d in (λ h. omega arith, λ h. omega arith)) (λ d. absurd (omega arith)))
        (λ b. let y = to_q.round b in by_le p q (λ d. let z = whole.up d in (λ h. omega arith, λ h. omega arith)) (λ d. let z = whole.round d in (λ h. omega arith, λ h. omega arith))))
        (λ a. let x = from_c.round a in by_le c q
        (λ b. let y = to_q.up b in by_le p q (λ d. let z = whole.up d in (λ h. omega arith, λ h. omega arith)) (λ d. let z = whole.round d in (λ h. omega arith, λ h. omega arith)))
        (λ b. let y = to_q.round b in by_le p q (λ d. absurd (omega arith)) (λ d. let z = whole.round d in (λ h. omega arith, λ h. omega arith))))

-- Hops are those of the shorter way round.
record Short (len u d : ℕ) : Type 0 where
  ahead_way : 2 * u ≤ len → d ≡ u
  back_way : len ≤ 2 * u → d + u ≡ len

short : (len u : ℕ) → u < len → Short len u (min u (len - u))
short len u h = record { ahead_way = λ k. omega arith; back_way = λ k. omega arith }

by_way : {X : Type 0} (len u d : ℕ) → Short len u d → (2 * u ≤ len → d ≡ u → X) → (len < 2 * u → d + u ≡ len → X) → X
by_way len u d s f g = by_le (2 * u) len (λ h. f h (s.ahead_way h)) (λ h. g h (s.back_way (omega arith)))

and_false : (b : Bool) → (b && false) ≡ false
and_false true = refl
and_false false = refl

module _ (len w v u dw dv du : ℕ) (s : Sum len w v u) (sw : Short len w dw) (sv : Short len v dv) (su : Short len u du) where
  bw : w < len
  bw = s.below_w

  bv : v < len
  bv = s.below_v

  bu : u < len
  bu = s.below_u

  -- Past the middle, a place between the start and q going plus is on no shortest way.
  past : 0 < w → w < u → len < 2 * u → dw + dv ≡ du → ⊥
  past a b c e =
      let x = s.near (omega arith) in
      let y = su.back_way (omega arith) in
      by_way len w dw sw (λ h i. by_way len v dv sv (λ j k. omega arith) (λ j k. omega arith)) (λ h i. by_way len v dv sv (λ j k. omega arith) (λ j k. omega arith))

  -- Before the middle, a place behind q going plus is on none.
  beyond : u < w → 2 * u < len → dw + dv ≡ du → ⊥
  beyond a b e =
      let x = s.far a in
      let y = su.ahead_way (omega arith) in
      by_way len w dw sw (λ h i. by_way len v dv sv (λ j k. omega arith) (λ j k. omega arith)) (λ h i. by_way len v dv sv (λ j k. omega arith) (λ j k. omega arith))

  -- On the way ahead the place comes no later than q, on the way back no earlier.
  sum_by_law : eqb (dw + dv) du ≡ (in_range w (len / 2 + 1) u || in_range (len - len / 2) (cond (eqb w 0) len (w + 1)) u)
  unfolding in_range
  sum_by_law =
      by_le w u
      (λ a.
      let e = s.near a in
      by_le (2 * u) len
      (λ b.
      let x = su.ahead_way b in let y = sw.ahead_way (omega arith) in let z = sv.ahead_way (omega arith) in
      rw (eq-eqb (dw + dv) du (omega arith), le-leb w u a, lt-ltb u (len / 2 + 1) (omega arith)))
      (λ b.
      let x = su.back_way (omega arith) in
      rw (le-ltb u (len / 2 + 1) (omega arith), and_false (leb w u), le-leb (len - len / 2) u (omega arith)) (by_le w 0
      (λ c. let y = sw.ahead_way (omega arith) in let z = sv.back_way (omega arith) in rw (eq-eqb w 0 (omega arith), lt-ltb u len s.below_u) (eq-eqb (dw + dv) du (omega arith)))
      (λ c. rw (ne_eqb w 0 (λ k. omega arith)) (by_le u w
      (λ d. let y = sw.back_way (omega arith) in let z = sv.ahead_way (omega arith) in rw (lt-ltb u (w + 1) (omega arith)) (eq-eqb (dw + dv) du (omega arith)))
      (λ d. rw (le-ltb u (w + 1) (omega arith)) (ne_eqb (dw + dv) du (past c d b))))))))
      (λ a.
      let e = s.far a in
      rw (lt-leb w u a, ne_eqb w 0 (λ k. omega arith), lt-ltb u (w + 1) (omega arith)) (by_le len (2 * u)
      (λ b.
      let m = s.below_w in
      let x = su.back_way b in let y = sw.back_way (omega arith) in let z = sv.back_way (omega arith) in
      rw (le-leb (len - len / 2) u (omega arith)) (eq-eqb (dw + dv) du (omega arith)))
      (λ b. rw (lt-leb (len - len / 2) u (omega arith)) (ne_eqb (dw + dv) du (beyond a b)))))

pub ring_between : (len c p q : ℕ) → c < len → p < len → q < len →
    between len true c p q ≡ (in_range (ahead len p c) (len / 2 + 1) (ahead len p q) || in_range (len - len / 2) (cond (eqb (ahead len p c) 0) len (ahead len p c + 1)) (ahead len p q))
unfolding between
ring_between len c p q hc hp hq =
    let s = ahead_sum len p c q hp hc hq in
    rw (lt-ltb c len hc, ring_hops len p c (ahead len p c) hp hc (ahead_is len p c hp hc), ring_hops len c q (ahead len c q) hc hq (ahead_is len c q hc hq), ring_hops len p q (ahead len p q) hp hq (ahead_is len p q hp hq))
    (sum_by_law len (ahead len p c) (ahead len c q) (ahead len p q) (min (ahead len p c) (len - ahead len p c)) (min (ahead len c q) (len - ahead len c q)) (min (ahead len p q) (len - ahead len p q)) s (short len (ahead len p c) s.below_w) (short len (ahead len c q) s.below_v) (short len (ahead len p q) s.below_u))

-- The numbers from which a hop is useful, plus or minus.
pub ring_range : (len c q : ℕ) (plus : Bool) → c < len → q < len → axis_useful len true c q plus ≡ in_range (cond plus 1 (len - len / 2)) (cond plus (len / 2 + 1) len) (ahead len c q)
unfolding in_range
ring_range len c q true hc hq =
    let w = ahead_is len c q hc hq in
    ring_useful_law len c q true hc hq
    ∙ by_le 1 (ahead len c q)
    (λ a. rw (ne_eqb (ahead len c q) 0 (λ k. omega arith), le-leb 1 (ahead len c q) a) (by_le (2 * ahead len c q) len
    (λ b. le-leb (2 * ahead len c q) len b ∙ sym (lt-ltb (ahead len c q) (len / 2 + 1) (omega arith)))
    (λ b. lt-leb (2 * ahead len c q) len b ∙ sym (le-ltb (ahead len c q) (len / 2 + 1) (omega arith)))))
    (λ a. rw (eq-eqb (ahead len c q) 0 (omega arith), lt-leb 1 (ahead len c q) a))
ring_range len c q false hc hq =
    let w = ahead_is len c q hc hq in
    let b = w.below in
    ring_useful_law len c q false hc hq
    ∙ rw (lt-ltb (ahead len c q) len b)
    (by_le len (2 * ahead len c q)
    (λ a. rw (ne_eqb (ahead len c q) 0 (λ k. omega arith), le-leb len (2 * ahead len c q) a, le-leb (len - len / 2) (ahead len c q) (omega arith)))
    (λ a. rw (lt-leb len (2 * ahead len c q) a, lt-leb (len - len / 2) (ahead len c q) (omega arith)) (and_false (not (eqb (ahead len c q) 0)))))

-- ---- in an open dimension, by the places themselves
pub open_between : (len c p q : ℕ) → c < len → p < len → q < len → between len false c p q ≡ (in_range c (cond (leb p c) len 0) q || in_range 0 (cond (leb c p) (c + 1) 0) q)
unfolding between axis_hops in_range
open_between len c p q hc hp hq =
    rw (lt-ltb c len hc, le-leb 0 q (omega arith)) (by_order p c
    (λ a. rw (le-leb p c (omega arith), lt-leb c p a, lt-ltb q len hq) (by_le c q
    (λ b. rw (le-leb c q b) (eq-eqb (gap p c + gap c q) (gap p q) (omega arith)))
    (λ b. rw (lt-leb c q b, le-ltb q 0 (omega arith)) (ne_eqb (gap p c + gap c q) (gap p q) (λ k. omega arith)))))
    (λ a. rw (le-leb p c (omega arith), le-leb c p (omega arith), lt-ltb q len hq, eq-eqb (gap p c + gap c q) (gap p q) (omega arith)) (by_le c q
    (λ b. rw (le-leb c q b))
    (λ b. rw (lt-leb c q b, lt-ltb q (c + 1) (omega arith)))))
    (λ a. rw (lt-leb p c a, le-leb c p (omega arith), le-ltb q 0 (omega arith), and_false (leb c q)) (by_le q c
    (λ b. rw (lt-ltb q (c + 1) (omega arith)) (eq-eqb (gap p c + gap c q) (gap p q) (omega arith)))
    (λ b. rw (le-ltb q (c + 1) (omega arith)) (ne_eqb (gap p c + gap c q) (gap p q) (λ k. omega arith))))))

pub open_range : (len c q : ℕ) (plus : Bool) → c < len → q < len → axis_useful len false c q plus ≡ in_range (cond plus (c + 1) 0) (cond plus len c) q
unfolding in_range
open_range len c q true hc hq =
    open_useful_law len c q true hc hq
    ∙ rw (lt-ltb q len hq) (by_le (c + 1) q (λ a. rw (le-leb (c + 1) q a, lt-ltb c q (omega arith))) (λ a. rw (lt-leb (c + 1) q a, le-ltb c q (omega arith))))
open_range len c q false hc hq = open_useful_law len c q false hc hq ∙ rw (le-leb 0 q (omega arith))

-- ---- the two ends exchanged
pub between_symmetric : (len : ℕ) (ring : Bool) (c p q : ℕ) → between len ring c p q ≡ between len ring c q p
unfolding between
between_symmetric len ring c p q =
    let sum : axis_hops len ring p c + axis_hops len ring c q ≡ axis_hops len ring q c + axis_hops len ring c p = omega (arith, axis_symmetric len ring p c, axis_symmetric len ring c q) in
    rw (sum, axis_symmetric len ring p q)
