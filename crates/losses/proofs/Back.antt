-- A link both ways: there and back.
use Prim.Native.Nat.{ℕ, ◌+◌, ◌≤◌, ◌<◌}
use native.Mathlib.Omega.{arith}
use mathlib.Core.Path.{◌≡◌, refl, ap}
use mathlib.Core.Bool.{Bool, true, false}
use lib.Dec.{ltb}
use Rattle.theory.proofs.Cases.{by_le}
use Rattle.shape.specs.declared.shape.Shape.{Shape}
use Rattle.shape.specs.declared.shape.Coords.{Coords}
use Rattle.shape.specs.declared.shape.Dim.{Dim}
use Rattle.shape.specs.declared.shape.Dim.TheVariants.{X, Y, Z}
use Rattle.shape.specs.Shape.{extent_of, coord_of, put}
use Rattle.shape.proofs.AxisLaws.{back_place}
use Rattle.machine.specs.Number.{Inside}
use Rattle.machine.specs.Hop.{plus_dir, dir_of, dir_dim}
use Rattle.machine.specs.ByCoords.{moved_at}
use Rattle.machine.proofs.ByCoords.{inside_at}
use Rattle.machine.proofs.Directions.{by_direction}
use Rattle.losses.specs.Loss.{plus_of}

module _ (s : Shape) (u : Coords) where
  pub there_back : (k : Dim) → coord_of u k < extent_of s k → moved_at s (moved_at s u (plus_dir k)) (plus_dir k + 1) ≡ u
  unfolding moved_at dir_dim
  there_back X h = ap (λ (v : ℕ). put u X v) (back_place s.x u.x true h)
  there_back Y h = ap (λ (v : ℕ). put u Y v) (back_place s.y u.y true h)
  there_back Z h = ap (λ (v : ℕ). put u Z v) (back_place s.z u.z true h)

  back_there : (k : Dim) → coord_of u k < extent_of s k → moved_at s (moved_at s u (plus_dir k + 1)) (plus_dir k) ≡ u
  unfolding moved_at dir_dim
  back_there X h = ap (λ (v : ℕ). put u X v) (back_place s.x u.x false h)
  back_there Y h = ap (λ (v : ℕ). put u Y v) (back_place s.y u.y false h)
  back_there Z h = ap (λ (v : ℕ). put u Z v) (back_place s.z u.z false h)

  pub plus_minus : Inside s u → (k : Dim) → moved_at s (moved_at s u (plus_dir k)) (plus_dir k + 1) ≡ u
  plus_minus i k = there_back k (inside_at s u i k)

  pub minus_plus : Inside s u → (k : Dim) → moved_at s (moved_at s u (plus_dir k + 1)) (plus_dir k) ≡ u
  minus_plus i k = back_there k (inside_at s u i k)

  pub plus_guard : (k : Dim) → ltb (coord_of u (dir_dim (plus_dir k))) (extent_of s (dir_dim (plus_dir k))) ≡ ltb (coord_of u k) (extent_of s k)
  unfolding dir_dim
  plus_guard X = refl
  plus_guard Y = refl
  plus_guard Z = refl

-- The kinds of links are those of the three dimensions.
pub plus_of_kind : (kind : ℕ) → 6 ≤ kind → kind < 9 → (k : Dim) × (plus_of kind ≡ plus_dir k)
plus_of_kind kind h g =
    by_le kind 6
    (λ l. let e : kind ≡ 6 = omega arith in (X, rw e))
    (λ l. by_le kind 7 (λ n. let e : kind ≡ 7 = omega arith in (Y, rw e)) (λ n. let e : kind ≡ 8 = omega arith in (Z, rw e)))

-- Every direction is a dimension's plus, or the one after it.
pub by_plus : (P : ℕ → Type 0) → ((k : Dim) → P (plus_dir k)) → ((k : Dim) → P (plus_dir k + 1)) → (d : ℕ) → d ≤ 5 → P d
by_plus P there back = by_direction P each
  where
    each : (k : Dim) (plus : Bool) → P (dir_of k plus)
    each k true = there k
    each X false = back X
    each Y false = back Y
    each Z false = back Z
