-- The nodes on the shortest ways between two nodes are a product of places, a box.
use Prim.Native.Nat.{ℕ, ◌+◌, ◌≤◌, ◌<◌}
use mathlib.Core.Bool.{true}
use mathlib.Core.Path.{◌≡◌}
use mathlib.Core.Logic.{◌↔◌}
use native.Mathlib.Omega.{arith}
use Rattle.shape.specs.declared.shape.Shape.{Shape}
use Rattle.shape.specs.declared.shape.Dim.{Dim}
use Rattle.shape.specs.declared.shape.Dim.TheVariants.{X, Y, Z}
use Rattle.shape.specs.Shape.{shape_error, extent_of, wrapped_in}
use Rattle.machine.specs.Number.{node_count}
use Rattle.machine.specs.Hop.{along, part, hops}
use Rattle.machine.proofs.Numbers.{inside}
use Rattle.machine.proofs.ByCoords.{inside_at}
use Rattle.machine.proofs.Laws.{part_triangle}
use Rattle.legs.specs.Between.{between}
use Rattle.legs.proofs.Axis.{between_by, between_is}

module _ (s : Shape) (h : shape_error s ≡ 0) (a v t : ℕ) (ha : a < node_count s) (hv : v < node_count s) (ht : t < node_count s) where
  least : (d : Dim) → part s a t d ≤ part s a v d + part s v t d
  least d = part_triangle s h a v t ha hv ht d

  -- v is on a shortest way from a to t exactly if it lies between them in every dimension.
  pub box : (hops s a v + hops s v t ≡ hops s a t) ↔ ((d : Dim) → between (extent_of s d) (wrapped_in s d) (along s v d) (along s a d) (along s t d) ≡ true)
  unfolding hops
  box = (
    λ e. let x = least X in let y = least Y in let z = least Z in
        λ d. between_by (extent_of s d) (wrapped_in s d) _ _ _ (inside_at s _ (inside s h v hv) d) (one d e x y z),
    λ f.
        let x = between_is (extent_of s X) (wrapped_in s X) _ _ _ (f X) in
        let y = between_is (extent_of s Y) (wrapped_in s Y) _ _ _ (f Y) in
        let z = between_is (extent_of s Z) (wrapped_in s Z) _ _ _ (f Z) in
        omega arith,
  )
    where
      one : (d : Dim) → hops s a v + hops s v t ≡ hops s a t → part s a t X ≤ part s a v X + part s v t X → part s a t Y ≤ part s a v Y + part s v t Y → part s a t Z ≤ part s a v Z + part s v t Z → part s a v d + part s v t d ≡ part s a t d
      one X e x y z = omega arith
      one Y e x y z = omega arith
      one Z e x y z = omega arith
