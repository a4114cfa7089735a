-- A leg of either mode is clear exactly if no link that it can cross is lost, with any rule for half a ring.
use Prim.Native.Nat.{ℕ, ◌<◌}
use mathlib.Core.Bool.{Bool, true}
use mathlib.Core.Path.{◌≡◌}
use mathlib.Core.Logic.{◌↔◌}
use Rattle.theory.specs.Clear.{Clear}
use Rattle.shape.specs.declared.shape.Shape.{Shape}
use Rattle.shape.specs.declared.shape.Coords.{Coords}
use Rattle.shape.specs.Shape.{shape_error}
use Rattle.machine.specs.declared.leg.Mode.{Mode}
use Rattle.machine.specs.declared.leg.Mode.TheVariants.{Adaptive, Deterministic}
use Rattle.machine.specs.Number.{node_count, coords_of, Inside}
use Rattle.machine.specs.Torus.{torus_by, leg}
use Rattle.legs.specs.Crossing.{can_cross}
use Rattle.legs.proofs.Adaptive.{adaptive_inside, clear_adaptive}
use Rattle.legs.proofs.Deterministic.{deterministic_inside, clear_deterministic}

-- `sound u d`: the link that leaves node u in direction d is not lost that way.
module _ (s : Shape) (h : shape_error s ≡ 0) (a t : ℕ) (ha : a < node_count s) (ht : t < node_count s) where
  pub clear_legs_law : (ties : ℕ → Bool) (m : Mode) (sound : ℕ → ℕ → Bool) → Clear (torus_by ties s) sound (leg t m) a ↔ ((u d : ℕ) → u < node_count s → can_cross ties m s (coords_of s u) d (coords_of s a) (coords_of s t) ≡ true → sound u d ≡ true)
  unfolding can_cross
  clear_legs_law ties Adaptive sound = clear_adaptive s h t ht ties sound a ha
  clear_legs_law ties Deterministic sound = clear_deterministic ties s h t ht sound a ha

-- Only links of nodes are crossed.
pub met_inside : (ties : ℕ → Bool) (m : Mode) (s : Shape) (u : Coords) (d : ℕ) (a t : Coords) → Inside s a → Inside s t → can_cross ties m s u d a t ≡ true → Inside s u
unfolding can_cross
met_inside ties Adaptive s u d a t ia it h = adaptive_inside s u d a t h
met_inside ties Deterministic s u d a t ia it h = deterministic_inside ties s u d a t ia it h
