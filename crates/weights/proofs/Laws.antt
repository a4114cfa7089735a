-- What E1 says of distance, as theorems about the definitions.
use Prim.Native.Nat.{ℕ, ◌+◌, ◌*◌, ◌≤◌, ◌<◌}
use native.Mathlib.Omega.{arith}
use native.Mathlib.Nat.{mul-le-mul, mul-le-mul_left, mul-add}
use mathlib.Core.Path.{◌≡◌, ap}
use mathlib.Core.Logic.{◌↔◌}
use Rattle.theory.proofs.Cases.{by_le}
use Rattle.shape.specs.declared.shape.Shape.{Shape}
use Rattle.shape.specs.declared.shape.Dim.{Dim}
use Rattle.shape.specs.declared.shape.Dim.TheVariants.{X, Y, Z}
use Rattle.shape.specs.Shape.{shape_error}
use Rattle.machine.specs.Number.{node_count, coords_of}
use Rattle.machine.specs.Hop.{part, hops}
use Rattle.machine.proofs.Numbers.{inside}
use Rattle.machine.proofs.ByCoords.{along_small}
use Rattle.machine.proofs.Laws.{part_self, part_triangle}
use Rattle.weights.specs.declared.weights.Weights.{Weights}
use Rattle.weights.specs.Weights.{weight_of, ones, weight_error}
use Rattle.weights.specs.Distance.{weighed, distance}
use Rattle.weights.proofs.Good.{good}

-- With weights of 1 the distance is the hops.
pub distance_ones : (s : Shape) (n t : ℕ) → distance ones s n t ≡ hops s n t
unfolding distance hops
distance_ones s n t = omega arith

pub distance_self : (w : Weights) (s : Shape) (n : ℕ) → distance w s n n ≡ 0
unfolding distance
distance_self w s n = rw (part_self s n X, part_self s n Y, part_self s n Z) (omega arith)

-- ---- one dimension
-- More hops weigh more.
heavier : (w m n : ℕ) → 1 ≤ w → m < n → w * m < w * n
heavier w m n h l = let up : w * (m + 1) ≤ w * n = mul-le-mul_left w (next m n l) in omega (arith, up, mul-add w m 1)
  where
    next : (m n : ℕ) → m < n → m + 1 ≤ n
    next m n l = omega arith

-- Hops by another place, at least as many, weigh at least as much, and as much exactly if they are as many.
record Compared (w whole first second : ℕ) : Type 0 where
  least : w * whole ≤ w * first + w * second
  same : first + second ≡ whole → w * first + w * second ≡ w * whole
  more : whole < first + second → w * whole < w * first + w * second

compared : (w whole first second : ℕ) → 1 ≤ w → whole ≤ first + second → Compared w whole first second
compared w whole first second h l =
    let split = mul-add w first second in
    let up : w * whole ≤ w * (first + second) = mul-le-mul_left w l in
    record {
      least = omega arith;
      same = λ e. omega (arith, ap (λ (m : ℕ). w * m) e);
      more = λ k. omega (arith, heavier w whole (first + second) h k);
    }

module _ (w : Weights) (hw : weight_error w ≡ 0) (s : Shape) (h : shape_error s ≡ 0) where
  -- Distance is at most 360.
  pub distance_most : (n t : ℕ) → n < node_count s → t < node_count s → distance w s n t ≤ 360
  unfolding distance
  distance_most n t hn ht = omega (arith, one X, one Y, one Z)
    where
      one : (d : Dim) → weighed w s n t d ≤ 8 * 15
      one d = mul-le-mul (good w hw d).high (along_small s h (coords_of s n) (coords_of s t) (inside s h n hn) (inside s h t ht) d)

  module _ (a v t : ℕ) (ha : a < node_count s) (hv : v < node_count s) (ht : t < node_count s) where
    by_way : (d : Dim) → Compared (weight_of w d) (part s a t d) (part s a v d) (part s v t d)
    by_way d = compared (weight_of w d) (part s a t d) (part s a v d) (part s v t d) (good w hw d).low (part_triangle s h a v t ha hv ht d)

    -- No way by another node is shorter.
    pub distance_triangle : distance w s a t ≤ distance w s a v + distance w s v t
    unfolding distance
    distance_triangle = omega (arith, (by_way X).least, (by_way Y).least, (by_way Z).least)

    -- A node lies on a shortest way by weight exactly when it does by hops: in each dimension the parts add up.
    abbrev adds : Dim → Type 0
    adds d = part s a v d + part s v t d ≡ part s a t d

    least : (d : Dim) → part s a t d ≤ part s a v d + part s v t d
    least d = part_triangle s h a v t ha hv ht d

    abbrev on_shortest : Type 0
    on_shortest = distance w s a v + distance w s v t ≡ distance w s a t

    not_more : on_shortest → (d : Dim) → part s a t d < part s a v d + part s v t d → ⊥
    unfolding distance
    not_more e X m = omega (arith, e, (by_way X).more m, (by_way Y).least, (by_way Z).least)
    not_more e Y m = omega (arith, e, (by_way X).least, (by_way Y).more m, (by_way Z).least)
    not_more e Z m = omega (arith, e, (by_way X).least, (by_way Y).least, (by_way Z).more m)

    by_weight : on_shortest → (d : Dim) → adds d
    by_weight e d = by_le (part s a v d + part s v t d) (part s a t d) (λ l. omega (arith, least d)) (λ m. absurd (not_more e d m))

    by_hops : hops s a v + hops s v t ≡ hops s a t → (d : Dim) → adds d
    unfolding hops
    by_hops e X = omega (arith, e, least X, least Y, least Z)
    by_hops e Y = omega (arith, e, least X, least Y, least Z)
    by_hops e Z = omega (arith, e, least X, least Y, least Z)

    pub shortest_same : (distance w s a v + distance w s v t ≡ distance w s a t) ↔ (hops s a v + hops s v t ≡ hops s a t)
    unfolding distance hops
    shortest_same = (
      λ e. omega (arith, by_weight e X, by_weight e Y, by_weight e Z),
      λ e. omega (arith, (by_way X).same (by_hops e X), (by_way Y).same (by_hops e Y), (by_way Z).same (by_hops e Z)),
    )
