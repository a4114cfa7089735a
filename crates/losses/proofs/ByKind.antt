-- What a loss takes away, and which legs it lies on, by its kind.
use Prim.Native.Nat.{ℕ, ◌≤◌, ◌<◌}
use native.Mathlib.Omega.{arith}
use mathlib.Core.Path.{◌≡◌}
use mathlib.Core.Bool.{Bool, false, cond, ◌&&◌}
use lib.Dec.{ltb, eqb}
use borrow.Author.Tests.{lt-ltb, le-ltb, ne_eqb}
use Rattle.theory.proofs.Cases.{by_le, by_order}
use Rattle.shape.specs.declared.shape.Shape.{Shape}
use Rattle.shape.specs.declared.shape.Coords.{Coords}
use Rattle.machine.specs.declared.leg.Mode.{Mode}
use Rattle.machine.specs.Number.{coords_of}
use Rattle.legs.specs.Crossing.{can_cross}
use Rattle.losses.specs.Loss.{loss_at, loss_kind, plus_of, same_coords, names_both, names_node, names, link_meets, node_meets, loss_meets}

pub by_kind : {P : Type 0} (k : ℕ) → (k < 6 → P) → (6 ≤ k → k < 9 → P) → (k ≡ 9 → P) → (9 < k → P) → P
by_kind k one both all more = by_le 6 k (λ a. by_order k 9 (both a) all more) one

module _ (k : ℕ) (a b c : Bool) where
  abbrev chosen : Bool
  chosen = cond (ltb k 6) a (cond (ltb k 9) b (cond (eqb k 9) c false))

  one_way : k < 6 → chosen ≡ a
  one_way h = rw (lt-ltb k 6 h)

  both_ways : 6 ≤ k → k < 9 → chosen ≡ b
  both_ways h g = rw (le-ltb k 6 h, lt-ltb k 9 g)

  whole_node : k ≡ 9 → chosen ≡ c
  whole_node e = rw e

  nothing : 9 < k → chosen ≡ false
  nothing h = rw (le-ltb k 6 (omega arith), le-ltb k 9 (omega arith), ne_eqb k 9 (λ e. omega arith))

module _ (s : Shape) (w n d : ℕ) where
  pub names_one : loss_kind w < 6 → names s w n d ≡ (eqb (loss_kind w) d && same_coords (loss_at w) (coords_of s n))
  unfolding names
  names_one h = one_way (loss_kind w) _ _ _ h

  pub names_both_law : 6 ≤ loss_kind w → loss_kind w < 9 → names s w n d ≡ names_both s (loss_at w) (plus_of (loss_kind w)) n d
  unfolding names
  names_both_law h g = both_ways (loss_kind w) _ _ _ h g

  pub names_all : loss_kind w ≡ 9 → names s w n d ≡ names_node s (loss_at w) n d
  unfolding names
  names_all e = whole_node (loss_kind w) _ _ _ e

  pub names_none : 9 < loss_kind w → names s w n d ≡ false
  unfolding names
  names_none h = nothing (loss_kind w) _ _ _ h

module _ (ties : ℕ → Bool) (m : Mode) (s : Shape) (w : ℕ) (a t : Coords) where
  pub meets_one : loss_kind w < 6 → loss_meets ties m s w a t ≡ can_cross ties m s (loss_at w) (loss_kind w) a t
  unfolding loss_meets
  meets_one h = one_way (loss_kind w) _ _ _ h

  pub meets_both : 6 ≤ loss_kind w → loss_kind w < 9 → loss_meets ties m s w a t ≡ link_meets ties m s (loss_at w) (plus_of (loss_kind w)) a t
  unfolding loss_meets
  meets_both h g = both_ways (loss_kind w) _ _ _ h g

  pub meets_all : loss_kind w ≡ 9 → loss_meets ties m s w a t ≡ node_meets ties m s (loss_at w) a t
  unfolding loss_meets
  meets_all e = whole_node (loss_kind w) _ _ _ e

  pub meets_none : 9 < loss_kind w → loss_meets ties m s w a t ≡ false
  unfolding loss_meets
  meets_none h = nothing (loss_kind w) _ _ _ h
