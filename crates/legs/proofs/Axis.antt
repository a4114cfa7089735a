-- One dimension: places between two others, and the links that the one way of a deterministic leg takes.
use Prim.Native.Nat.{ℕ, ◌+◌, ◌-◌, ◌*◌, ◌≤◌, ◌<◌}
use mathlib.Core.Bool.{Bool, true, false, cond, not, ◌&&◌, false≢true}
use mathlib.Core.Path.{◌≡◌, refl, sym, ap, ◌∙◌}
use native.Mathlib.Omega.{arith}
use lib.Dec.{ltb, eqb}
use borrow.Author.Tests.{eqb-true, eq-eqb, ne_eqb, lt-ltb, ltb-true, le-leb, leb-true}
use Rattle.theory.proofs.Bools.{and_true}
use Rattle.theory.proofs.Cases.{by_le}
use Rattle.shape.specs.Axis.{axis_hops, place, axis_useful}
use Rattle.shape.specs.Steps.{ahead, ring_useful, goes}
use Rattle.shape.proofs.AxisLaws.{axis_zero, axis_self, axis_step, axis_triangle, useful_has, useful_less, Ahead, ahead_is, ring_hops, ring_useful_law, open_useful_law}
use Rattle.shape.proofs.Runs.{ahead_of, goes_useful, kept}
use Rattle.legs.specs.Between.{between, crosses, agree, runs}

-- ---- between
pub between_by : (len : ℕ) (ring : Bool) (c p q : ℕ) → c < len → axis_hops len ring p c + axis_hops len ring c q ≡ axis_hops len ring p q → between len ring c p q ≡ true
unfolding between
between_by len ring c p q h e = rw (lt-ltb c len h) (eq-eqb (axis_hops len ring p c + axis_hops len ring c q) (axis_hops len ring p q) e)

pub between_is : (len : ℕ) (ring : Bool) (c p q : ℕ) → between len ring c p q ≡ true → axis_hops len ring p c + axis_hops len ring c q ≡ axis_hops len ring p q
unfolding between
between_is len ring c p q h = eqb-true _ _ (and_true (ltb c len) _ h).1

pub between_below : (len : ℕ) (ring : Bool) (c p q : ℕ) → between len ring c p q ≡ true → c < len
unfolding between
between_below len ring c p q h = ltb-true c len (and_true (ltb c len) _ h).0

-- ---- a link on the one way
agree_is : (a b : Bool) → agree a b ≡ true → a ≡ b
agree_is true b h = sym h
agree_is false true h = absurd (false≢true h)
agree_is false false h = refl

agree_self : (a : Bool) → agree a a ≡ true
agree_self true = refl
agree_self false = refl

pub record Running (ties : ℕ → Bool) (len : ℕ) (ring plus : Bool) (c p q : ℕ) : Type 0 where
  pub on : between len ring c p q ≡ true
  pub useful : axis_useful len ring c q plus ≡ true
  pub way : goes ties len ring p q ≡ plus

pub runs_is : (ties : ℕ → Bool) (len : ℕ) (ring plus : Bool) (c p q : ℕ) → runs ties len ring plus c p q ≡ true → Running ties len ring plus c p q
unfolding runs crosses
runs_is ties len ring plus c p q h =
    let a = and_true (between len ring c p q && axis_useful len ring c q plus) _ h in
    let b = and_true (between len ring c p q) _ a.0 in
    record { on = b.0; useful = b.1; way = agree_is _ _ a.1 }

pub is_runs : (ties : ℕ → Bool) (len : ℕ) (ring plus : Bool) (c p q : ℕ) → Running ties len ring plus c p q → runs ties len ring plus c p q ≡ true
unfolding runs crosses
is_runs ties len ring plus c p q r = rw (r.on, r.useful, r.way) (agree_self plus)

-- ---- round a ring by the hops going plus, u: up to half the ring where plus is useful, from half on where minus is
ring_side : (len p q u : ℕ) (plus : Bool) → p < len → q < len → Ahead len p q u → axis_useful len true p q plus ≡ true → cond plus (2 * u ≤ len) (len ≤ 2 * u)
ring_side len p q u plus hp hq w h = go plus (rw (ring_useful_law len p q plus hp hq, ahead_of len p q u hp hq w) at h)
  where
    go : (plus : Bool) → ring_useful len u plus ≡ true → cond plus (2 * u ≤ len) (len ≤ 2 * u)
    go true k = leb-true (2 * u) len (and_true (not (eqb u 0)) _ k).1
    go false k = leb-true len (2 * u) (and_true (not (eqb u 0)) _ k).1

-- The hops going plus from p to c, from those of both to q.
ahead_less : (len p c q u v : ℕ) → p < len → c < len → q < len → Ahead len p q u → Ahead len c q v → v ≤ u → ahead len p c ≡ u - v
ahead_less len p c q u v hp hc hq a b l =
    ahead_of len p c (u - v) hp hc (by_le p q
    (λ i. let x = a.up i in by_le c q
    (λ j. let y = b.up j in record { below = omega (arith, a.below); up = λ _. omega arith; round = λ k. absurd (omega arith) })
    (λ j. let y = b.round j in record { below = omega (arith, a.below); up = λ k. omega (arith, b.below); round = λ k. absurd (omega (arith, b.below)) }))
    (λ i. let x = a.round i in by_le c q
    (λ j. let y = b.up j in record { below = omega (arith, a.below); up = λ k. absurd (omega arith); round = λ k. omega arith })
    (λ j. let y = b.round j in record { below = omega (arith, a.below); up = λ k. omega arith; round = λ k. absurd (omega arith) })))

ahead_more : (len p c q u v : ℕ) → p < len → c < len → q < len → Ahead len p q u → Ahead len c q v → u < v → ahead len p c ≡ len - (v - u)
ahead_more len p c q u v hp hc hq a b l =
    ahead_of len p c (len - (v - u)) hp hc (by_le p q
    (λ i. let x = a.up i in let z = b.below in by_le c q
    (λ j. let y = b.up j in record { below = omega arith; up = λ k. absurd (omega arith); round = λ k. omega arith })
    (λ j. let y = b.round j in record { below = omega arith; up = λ k. omega arith; round = λ k. absurd (omega arith) }))
    (λ i. let x = a.round i in let z = b.below in by_le c q
    (λ j. let y = b.up j in record { below = omega arith; up = λ k. absurd (omega arith); round = λ k. absurd (omega (arith, a.below)) })
    (λ j. let y = b.round j in record { below = omega arith; up = λ k. absurd (omega arith); round = λ k. omega arith })))

-- ---- in an open dimension
open_up : (len p q : ℕ) → p ≤ q → axis_hops len false p q + p ≡ q
unfolding axis_hops
open_up len p q h = omega arith

open_down : (len p q : ℕ) → q ≤ p → axis_hops len false p q + q ≡ p
unfolding axis_hops
open_down len p q h = omega arith

-- Where one direction is useful from p to q and from c between them to q, it is so from p to c.
same_way :
    (len : ℕ) (ring plus : Bool) (c p q : ℕ) →
    c < len →
    p < len →
    q < len →
    (c ≡ p → ⊥) →
    between len ring c p q ≡ true →
    axis_useful len ring c q plus ≡ true →
    axis_useful len ring p q plus ≡ true →
    axis_useful len ring p c plus ≡ true
same_way len true true c p q hc hp hq ne h v u =
    let far₁ = ahead len p q in
    let far₂ = ahead len c q in
    let a = ahead_is len p q hp hq in
    let b = ahead_is len c q hc hq in
    let x = ring_side len p q far₁ true hp hq a u in
    let y = ring_side len c q far₂ true hc hq b v in
    let sum = between_is len true c p q h in
    let du : axis_hops len true p q ≡ far₁ = ring_hops len p q far₁ hp hq a ∙ omega arith in
    let dv : axis_hops len true c q ≡ far₂ = ring_hops len c q far₂ hc hq b ∙ omega arith in
    let far : axis_hops len true p c ≡ 0 → ⊥ = λ z. ne (sym (axis_zero len true p c hp hc z)) in
    let l : far₂ < far₁ = by_le far₁ far₂ (λ k. absurd (far (omega arith))) (λ k. k) in
    rw (ring_useful_law len p c true hp hc, ahead_less len p c q far₁ far₂ hp hc hq a b (omega arith), ne_eqb (far₁ - far₂) 0 (λ z. omega arith))
    (le-leb (2 * (far₁ - far₂)) len (omega arith))
same_way len true false c p q hc hp hq ne h v u =
    let far₁ = ahead len p q in
    let far₂ = ahead len c q in
    let a = ahead_is len p q hp hq in
    let b = ahead_is len c q hc hq in
    let x = ring_side len p q far₁ false hp hq a u in
    let y = ring_side len c q far₂ false hc hq b v in
    let ub = a.below in
    let vb = b.below in
    let sum = between_is len true c p q h in
    let du : axis_hops len true p q ≡ len - far₁ = ring_hops len p q far₁ hp hq a ∙ omega arith in
    let dv : axis_hops len true c q ≡ len - far₂ = ring_hops len c q far₂ hc hq b ∙ omega arith in
    let far : axis_hops len true p c ≡ 0 → ⊥ = λ z. ne (sym (axis_zero len true p c hp hc z)) in
    let l : far₁ < far₂ = by_le far₂ far₁ (λ k. absurd (far (omega arith))) (λ k. k) in
    rw (ring_useful_law len p c false hp hc, ahead_more len p c q far₁ far₂ hp hc hq a b l, ne_eqb (len - (far₂ - far₁)) 0 (λ z. omega arith))
    (le-leb len (2 * (len - (far₂ - far₁))) (omega arith))
same_way len false true c p q hc hp hq ne h v u =
    let x : p < q = ltb-true p q (sym (open_useful_law len p q true hp hq) ∙ u) in
    let y : c < q = ltb-true c q (sym (open_useful_law len c q true hc hq) ∙ v) in
    let sum = between_is len false c p q h in
    let l : p < c = by_le c p (λ k. absurd (ne (omega (arith, open_down len p c k, open_up len c q (omega arith), open_up len p q (omega arith))))) (λ k. k) in
    rw (open_useful_law len p c true hp hc) (lt-ltb p c l)
same_way len false false c p q hc hp hq ne h v u =
    let x : q < p = ltb-true q p (sym (open_useful_law len p q false hp hq) ∙ u) in
    let y : q < c = ltb-true q c (sym (open_useful_law len c q false hc hq) ∙ v) in
    let sum = between_is len false c p q h in
    let l : c < p = by_le p c (λ k. absurd (ne (omega (arith, open_up len p c k, open_down len c q (omega arith), open_down len p q (omega arith))))) (λ k. k) in
    rw (open_useful_law len p c false hp hc) (lt-ltb c p l)

-- ---- along the one way
module _ (ties : ℕ → Bool) (len : ℕ) (ring : Bool) where
  -- A dimension that is run is not done.
  pub runs_apart : (plus : Bool) (c p q : ℕ) → Running ties len ring plus c p q → p ≡ q → ⊥
  runs_apart plus c p q r e =
      let z : axis_hops len ring p q ≡ 0 = rw e (axis_self len ring q) in
      omega (arith, between_is len ring c p q r.on, useful_less len ring c q plus r.useful)

  module _ (c p q : ℕ) (hc : c < len) (hp : p < len) (hq : q < len) where
    -- At the first link.
    pub run_first : (plus : Bool) → (p ≡ q → ⊥) → goes ties len ring p q ≡ plus → Running ties len ring plus p p q
    run_first plus ne e = record {
      on = between_by len ring p p q hp (omega (arith, axis_self len ring p));
      useful = goes_useful ties len ring p q plus hp hq ne e;
      way = e;
    }

    -- One link further back.
    pub run_back : (plus w : Bool) → (p ≡ q → ⊥) → goes ties len ring p q ≡ w → Running ties len ring plus c (place len p w) q → Running ties len ring plus c p q
    run_back plus w ne e r =
        let u = goes_useful ties len ring p q w hp hq ne e in
        let n = place len p w in
        record {
          on = between_by len ring c p q hc (omega (arith, useful_less len ring p q w u, between_is len ring c n q r.on, axis_step len ring p c w hp hc (useful_has len ring p q w u), axis_triangle (axis_hops len ring p c) len ring p c q hp hc hq refl));
          useful = r.useful;
          way = e ∙ sym (kept ties len ring p q w hp hq ne e (runs_apart plus c n q r)) ∙ r.way;
        }

    -- One link on.
    pub run_on : (plus : Bool) → (c ≡ p → ⊥) → Running ties len ring plus c p q → Running ties len ring plus c (place len p plus) q
    run_on plus ne r =
        let n = place len p plus in
        let apart = runs_apart plus c p q r in
        let u = goes_useful ties len ring p q plus hp hq apart r.way in
        let k = same_way len ring plus c p q hc hp hq ne r.on r.useful u in
        let sum : axis_hops len ring n c + axis_hops len ring c q ≡ axis_hops len ring n q = omega (arith, between_is len ring c p q r.on, useful_less len ring p q plus u, useful_less len ring p c plus k) in
        let more : n ≡ q → ⊥ = λ e. omega (arith, sum, useful_less len ring c q plus r.useful, ap (λ (m : ℕ). axis_hops len ring m q) e, axis_self len ring q) in
        record { on = between_by len ring c n q hc sum; useful = r.useful; way = kept ties len ring p q plus hp hq apart r.way more }
