-- A deterministic leg is clear exactly if every link that its one walk crosses is sound: which these are, by coordinates, with any rule for half a ring.
use Prim.Native.Nat.{ℕ, ◌<◌}
use mathlib.Core.Bool.{Bool, true, false, cond}
use mathlib.Core.Path.{◌≡◌}
use mathlib.Core.Logic.{◌↔◌, inl, inr, ⊎_elim}
use lib.Dec.{leb, eqb}
use borrow.Author.Tests.{eqb-true}
use Rattle.theory.proofs.Bools.{and_true}
use Rattle.theory.specs.Clear.{Clear}
use Rattle.shape.specs.declared.shape.Shape.{Shape}
use Rattle.shape.specs.declared.shape.Coords.{Coords}
use Rattle.shape.specs.declared.shape.Dim.{Dim}
use Rattle.shape.specs.declared.shape.Dim.TheVariants.{X, Y, Z}
use Rattle.shape.specs.Shape.{shape_error, extent_of, coord_of, wrapped_in, same_dim, before_dim}
use Rattle.machine.specs.declared.leg.Mode.TheVariants.{Deterministic}
use Rattle.machine.specs.Number.{node_count, coords_of, Inside}
use Rattle.machine.specs.Hop.{dir_dim, dir_plus, dir_of}
use Rattle.machine.specs.ByCoords.{goes_along}
use Rattle.machine.specs.Torus.{torus_by, leg}
use Rattle.machine.proofs.Numbers.{inside}
use Rattle.machine.proofs.Directions.{direction}
use Rattle.machine.proofs.ByCoords.{inside_at}
use Rattle.machine.proofs.OneDirection.{leads_along, leads_at, at_leads, moved}
use Rattle.machine.proofs.Laws.{same_node}
use Rattle.machine.proofs.Torus.{torus_by_laws}
use Rattle.legs.specs.Crossing.{deterministic_along, deterministic_crosses}
use Rattle.legs.proofs.Walks.{Crossings, clear_crossings}
use Rattle.legs.proofs.Axis.{between_below, runs_is}
use Rattle.legs.proofs.Dims.{all_of}
use Rattle.legs.proofs.OneWalk.{runs_along, part_along, walk_first, walk_after, walk_split}

module _ (ties : ℕ → Bool) (s : Shape) where
  -- ---- only links of nodes are crossed
  part_below : (u : Coords) (k : Dim) (plus : Bool) (a t : Coords) → Inside s a → Inside s t → (d : Dim) → part_along ties s u k plus a t d ≡ true → coord_of u d < extent_of s d
  part_below u k plus a t ia it d = go (same_dim k d) (before_dim d k)
    where
      go : (b c : Bool) → cond b (runs_along ties s u plus a t d) (cond c (eqb (coord_of u d) (coord_of t d)) (eqb (coord_of u d) (coord_of a d))) ≡ true → coord_of u d < extent_of s d
      go true c h = between_below (extent_of s d) (wrapped_in s d) _ _ _ (runs_is ties (extent_of s d) (wrapped_in s d) plus _ _ _ h).on
      go false true h = rw (eqb-true (coord_of u d) (coord_of t d) h) (inside_at s t it d)
      go false false h = rw (eqb-true (coord_of u d) (coord_of a d) h) (inside_at s a ia d)

  pub deterministic_inside : (u : Coords) (dir : ℕ) (a t : Coords) → Inside s a → Inside s t → deterministic_crosses ties s u dir a t ≡ true → Inside s u
  unfolding deterministic_crosses deterministic_along
  deterministic_inside u dir a t ia it m =
      let all = all_of (part_along ties s u (dir_dim dir) (dir_plus dir) a t) (and_true (leb dir 5) _ m).1 in
      let one : (d : Dim) → coord_of u d < extent_of s d = λ d. part_below u (dir_dim dir) (dir_plus dir) a t ia it d (all d) in
      record { x = one X; y = one Y; z = one Z }

  module _ (h : shape_error s ≡ 0) (t : ℕ) (ht : t < node_count s) where
    abbrev can : ℕ → ℕ → ℕ → Bool
    can p u d = deterministic_crosses ties s (coords_of s u) d (coords_of s p) (coords_of s t)

    pub deterministic_crossings : Crossings (torus_by ties s) (leg t Deterministic) can
    unfolding deterministic_crosses deterministic_along
    deterministic_crossings = record {
      first = λ p d at a.
          let c = coords_of s p in
          let k = leads_at ties s h p d at t a in
          rw k.low (walk_first ties s c (coords_of s t) c (inside s h p at) (inside s h t ht) (inside s h p at) (dir_dim d) (dir_plus d) k.first k.way);
      after = λ p e u d at hu a m.
          let c = coords_of s p in
          let k = leads_at ties s h p e at t a in
          let b = and_true (leb d 5) _ (rw (moved s h p e at) at m) in
          rw b.0 (walk_after ties s c (coords_of s t) (coords_of s u) (inside s h p at) (inside s h t ht) (inside s h u hu) (dir_dim e) (dir_dim d) (dir_plus e) (dir_plus d) k.first k.way b.1);
      split = λ p u d at hu m.
          let c = coords_of s p in
          let T = coords_of s t in
          let b = and_true (leb d 5) _ m in
          ⊎_elim
          (λ n. inl (same_node s h p u at hu n.same, at_leads ties s h p d at t (record { low = b.0; first = n.first; way = n.way })))
          (λ n.
          let j = n.dim in
          let e = dir_of j (goes_along ties s c T j) in
          let w = direction j (goes_along ties s c T j) in
          inr (e, at_leads ties s h p e at t (leads_along ties s c T j n.first), rw (moved s h p e at, w.dim, w.way, b.0) n.rest))
          (walk_split ties s c T (coords_of s u) (inside s h p at) (inside s h t ht) (inside s h u hu) (dir_dim d) (dir_plus d) b.1);
    }

    pub clear_deterministic : (sound : ℕ → ℕ → Bool) (a : ℕ) → a < node_count s → Clear (torus_by ties s) sound (leg t Deterministic) a ↔ ((u d : ℕ) → u < node_count s → deterministic_crosses ties s (coords_of s u) d (coords_of s a) (coords_of s t) ≡ true → sound u d ≡ true)
    clear_deterministic sound a ha = clear_crossings (torus_by ties s) (torus_by_laws ties s h) (leg t Deterministic) ht can deterministic_crossings sound a ha
