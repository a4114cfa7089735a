-- An adaptive leg is clear exactly if every link that it can cross is sound: which these are, by coordinates.
use Prim.Native.Nat.{ℕ, ◌+◌, ◌<◌}
use mathlib.Core.Bool.{Bool, true, false, cond, ◌&&◌}
use mathlib.Core.Path.{◌≡◌, sym, ◌∙◌}
use mathlib.Core.Logic.{◌↔◌, inl, inr}
use native.Mathlib.Omega.{arith}
use lib.Dec.{leb, eqb}
use borrow.Author.Tests.{eqb-true, eqb-false}
use Rattle.theory.proofs.Bools.{and_true}
use Rattle.theory.proofs.Cases.{test}
use Rattle.theory.specs.Clear.{Clear}
use Rattle.shape.specs.declared.shape.Shape.{Shape}
use Rattle.shape.specs.declared.shape.Coords.{Coords}
use Rattle.shape.specs.declared.shape.Dim.{Dim}
use Rattle.shape.specs.declared.shape.Dim.TheVariants.{X, Y, Z}
use Rattle.shape.specs.Shape.{shape_error, extent_of, coord_of, wrapped_in, same_dim}
use Rattle.machine.specs.declared.leg.Mode.TheVariants.{Adaptive}
use Rattle.machine.specs.Number.{node_count, coords_of, Inside}
use Rattle.machine.specs.Hop.{dir_dim, dir_plus, hops, useful, neighbour, rule, first_direction}
use Rattle.machine.specs.ByCoords.{useful_along, useful_at}
use Rattle.machine.specs.Torus.{allowed_by, torus_by, leg}
use Rattle.machine.proofs.ByCoords.{useful_at_law, neighbour_below}
use Rattle.machine.proofs.Laws.{useful_link, useful_lowers, useful_of, hops_self, hops_step, first_useful, triangle}
use Rattle.machine.proofs.Torus.{torus_by_laws}
use Rattle.legs.specs.Between.{between, crosses}
use Rattle.legs.specs.Crossing.{adaptive_along, adaptive_crosses}
use Rattle.legs.proofs.Walks.{Crossings, clear_crossings}
use Rattle.legs.proofs.Axis.{between_below}
use Rattle.legs.proofs.Dims.{all_of, of_all}
use Rattle.legs.proofs.Box.{box}

-- The part of the product in one dimension.
module _ (s : Shape) (u : Coords) (plus : Bool) (a t : Coords) where
  abbrev between_along : Dim → Bool
  between_along d = between (extent_of s d) (wrapped_in s d) (coord_of u d) (coord_of a d) (coord_of t d)

  abbrev part_along : Dim → Dim → Bool
  part_along k d = cond (same_dim k d) (crosses (extent_of s d) (wrapped_in s d) plus (coord_of u d) (coord_of a d) (coord_of t d)) (between_along d)

  part_between : (k d : Dim) → part_along k d ≡ true → between_along d ≡ true
  unfolding crosses
  part_between k d = go (same_dim k d)
    where
      go : (b : Bool) → cond b (between_along d && useful_along s u t d plus) (between_along d) ≡ true → between_along d ≡ true
      go true h = (and_true (between_along d) _ h).0
      go false h = h

  part_useful : (k : Dim) → part_along k k ≡ true → useful_along s u t k plus ≡ true
  unfolding crosses
  part_useful X h = (and_true (between_along X) _ h).1
  part_useful Y h = (and_true (between_along Y) _ h).1
  part_useful Z h = (and_true (between_along Z) _ h).1

  part_of : (k d : Dim) → ((e : Dim) → between_along e ≡ true) → useful_along s u t k plus ≡ true → part_along k d ≡ true
  unfolding crosses
  part_of X X h g = rw (h X, g)
  part_of X Y h g = h Y
  part_of X Z h g = h Z
  part_of Y X h g = h X
  part_of Y Y h g = rw (h Y, g)
  part_of Y Z h g = h Z
  part_of Z X h g = h X
  part_of Z Y h g = h Y
  part_of Z Z h g = rw (h Z, g)

-- Only links of nodes are crossed.
pub adaptive_inside : (s : Shape) (u : Coords) (dir : ℕ) (a t : Coords) → adaptive_crosses s u dir a t ≡ true → Inside s u
unfolding adaptive_crosses adaptive_along
adaptive_inside s u dir a t m =
    let all = all_of (part_along s u (dir_plus dir) a t (dir_dim dir)) (and_true (leb dir 5) _ m).1 in
    let one : (d : Dim) → coord_of u d < extent_of s d = λ d. between_below (extent_of s d) (wrapped_in s d) _ _ _ (part_between s u (dir_plus dir) a t (dir_dim dir) d (all d)) in
    record { x = one X; y = one Y; z = one Z }

module _ (s : Shape) (h : shape_error s ≡ 0) (t : ℕ) (ht : t < node_count s) where
  abbrev can : ℕ → ℕ → ℕ → Bool
  can p u d = adaptive_crosses s (coords_of s u) d (coords_of s p) (coords_of s t)

  module _ (a u : ℕ) (ha : a < node_count s) (hu : u < node_count s) where
    -- The leg can cross the links of the nodes on a shortest way whose hops are useful.
    pub adaptive_crosses_law : (dir : ℕ) → (can a u dir ≡ true) ↔ ((hops s a u + hops s u t ≡ hops s a t) × (useful s u t dir ≡ true))
    unfolding adaptive_crosses adaptive_along useful_at
    adaptive_crosses_law dir =
        let U = coords_of s u in
        let A = coords_of s a in
        let T = coords_of s t in
        let k = dir_dim dir in
        let plus = dir_plus dir in (
          λ m.
              let both = and_true (leb dir 5) _ m in
              let all = all_of (part_along s U plus A T k) both.1 in
              ((box s h a u t ha hu ht).1 (λ d. part_between s U plus A T k d (all d)), useful_at_law s h u hu t dir ∙ rw both.0 (part_useful s U plus A T k (all k))),
          λ m.
              let both = and_true (leb dir 5) _ (sym (useful_at_law s h u hu t dir) ∙ m.1) in
              rw both.0 (of_all (part_along s U plus A T k) (λ d. part_of s U plus A T k d ((box s h a u t ha hu ht).0 m.0) both.1)),
        )

  pub adaptive_crossings : (ties : ℕ → Bool) → Crossings (torus_by ties s) (leg t Adaptive) can
  unfolding allowed_by
  adaptive_crossings ties = record {
    first = λ p d at a. (adaptive_crosses_law p p at at d).1 (omega (arith, hops_self s p), a);
    after = λ p e u d at hu a m.
        let k = (adaptive_crosses_law (neighbour s p e) u (neighbour_below s h p at e) hu d).0 m in
        (adaptive_crosses_law p u at hu d).1 (omega (arith, k.0, useful_lowers s p t e a, hops_step s h p e at (useful_link s p t e a) u hu, triangle s h p u t at hu ht), k.1);
    split = λ p u d at hu m.
        let k = (adaptive_crosses_law p u at hu d).0 m in
        test (eqb p u)
        (λ q. let e = eqb-true p u q in inl (e, rw e k.1))
        (λ q.
        let e = first_direction rule s p u in
        let n = neighbour s p e in
        let hn = neighbour_below s h p at e in
        let f = first_useful s h p u at hu rule (eqb-false p u q) in
        let l = useful_link s p u e f in
        let less = useful_lowers s p u e f in
        let step = hops_step s h p e at l t ht in
        let tri = triangle s h n u t hn hu ht in
        let sum = k.0 in
        inr (e, useful_of s p t e l (omega arith), (adaptive_crosses_law n u hn hu d).1 (omega arith, k.1)));
  }

  pub clear_adaptive : (ties : ℕ → Bool) (sound : ℕ → ℕ → Bool) (a : ℕ) → a < node_count s → Clear (torus_by ties s) sound (leg t Adaptive) a ↔ ((u d : ℕ) → u < node_count s → adaptive_crosses s (coords_of s u) d (coords_of s a) (coords_of s t) ≡ true → sound u d ≡ true)
  clear_adaptive ties sound a ha = clear_crossings (torus_by ties s) (torus_by_laws ties s h) (leg t Adaptive) ht can (adaptive_crossings ties) sound a ha
