-- Each hop that a leg allows takes its dimension's weight off the distance to the leg's target. So the hops of every allowed walk to the target add up to the
-- leg's distance, whichever of them are taken.
use Prim.Native.Nat.{ℕ, ◌+◌, ◌*◌, ◌<◌}
use native.Mathlib.Omega.{arith}
use native.Mathlib.Nat.{mul-add}
use mathlib.Core.Path.{◌≡◌, sym, ap, ◌∙◌}
use mathlib.Core.Bool.{Bool, true}
use mathlib.Core.List.{List, [], ◌∷◌}
use lib.Dec.{leb}
use Rattle.theory.specs.Clear.{Allows, lead}
use Rattle.theory.proofs.Bools.{and_true}
use Rattle.shape.specs.declared.shape.Shape.{Shape}
use Rattle.shape.specs.declared.shape.Coords.{Coords}
use Rattle.shape.specs.declared.shape.Dim.{Dim}
use Rattle.shape.specs.declared.shape.Dim.TheVariants.{X, Y, Z}
use Rattle.shape.specs.Shape.{shape_error, extent_of, wrapped_in, coord_of, put}
use Rattle.shape.specs.Axis.{axis_hops, place}
use Rattle.shape.proofs.AxisLaws.{useful_less}
use Rattle.machine.specs.declared.leg.Leg.{Leg}
use Rattle.machine.specs.Number.{node_count, coords_of}
use Rattle.machine.specs.Hop.{dir_dim, dir_plus, neighbour, useful}
use Rattle.machine.specs.ByCoords.{hops_along, moved_at, useful_at}
use Rattle.machine.specs.Torus.{torus_by}
use Rattle.machine.proofs.ByCoords.{neighbour_coords, neighbour_below, useful_at_law}
use Rattle.machine.proofs.Torus.{allowed_by_useful}
use Rattle.weights.specs.declared.weights.Weights.{Weights}
use Rattle.weights.specs.Weights.{weight_of}
use Rattle.weights.specs.Distance.{distance}
use Rattle.weights.specs.Steps.{distance_at}
use Rattle.weights.specs.Walks.{walk_weight}
use Rattle.weights.proofs.ByCoords.{distance_at_law}

-- One coordinate changed changes that dimension's part of the sum.
distance_put :
    (w : Weights) (s : Shape) (c t : Coords) (d : Dim) (v : ℕ) →
    distance_at w s (put c d v) t + weight_of w d * hops_along s c t d ≡ distance_at w s c t + weight_of w d * axis_hops (extent_of s d) (wrapped_in s d) v (coord_of t d)
unfolding distance_at
distance_put w s c t X v = omega arith
distance_put w s c t Y v = omega arith
distance_put w s c t Z v = omega arith

module _ (w : Weights) (s : Shape) (h : shape_error s ≡ 0) where
  -- A useful hop.
  pub hop_weighs : (n t dir : ℕ) → n < node_count s → useful s n t dir ≡ true → distance w s n t ≡ weight_of w (dir_dim dir) + distance w s (neighbour s n dir) t
  unfolding useful_at moved_at
  hop_weighs n t dir hn u =
      let c = coords_of s n in
      let e = coords_of s t in
      let d = dir_dim dir in
      let v = place (extent_of s d) (coord_of c d) (dir_plus dir) in
      let less = useful_less (extent_of s d) (wrapped_in s d) (coord_of c d) (coord_of e d) (dir_plus dir) (and_true (leb dir 5) _ (sym (useful_at_law s h n hn t dir) ∙ u)).1 in
      let after : distance w s (neighbour s n dir) t ≡ distance_at w s (put c d v) e = sym (distance_at_law w s (neighbour s n dir) t) ∙ ap (λ k. distance_at w s k e) (neighbour_coords s h n hn dir) in
      omega (arith, after, distance_at_law w s n t, distance_put w s c e d v, ap (λ (m : ℕ). weight_of w d * m) less, mul-add (weight_of w d) (axis_hops (extent_of s d) (wrapped_in s d) v (coord_of e d)) 1)

  -- Every walk that a leg allows, by any rule for half a ring.
  pub walk_weighs :
      (ties : ℕ → Bool) (l : Leg) → l.target < node_count s → (p : ℕ) → p < node_count s → (ds : List ℕ) → Allows (torus_by ties s) l p ds →
      distance w s p l.target ≡ walk_weight w ds + distance w s (lead (torus_by ties s) p ds) l.target
  unfolding walk_weight lead
  walk_weighs ties l ht p hp [] a = omega arith
  walk_weighs ties l ht p hp (d ∷ ds) a =
      omega (arith, hop_weighs p l.target d hp (allowed_by_useful s h p l.target hp ht ties l.mode d a.0), walk_weighs ties l ht (neighbour s p d) (neighbour_below s h p hp d) ds a.1)
