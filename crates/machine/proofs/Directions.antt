-- The six directions: each is the one of its dimension, plus or minus.
use Prim.Native.Nat.{ℕ, zero, suc, ◌≤◌}
use mathlib.Core.Bool.{Bool, true, false, not}
use mathlib.Core.Path.{◌≡◌, refl, ap, ◌∙◌}
use native.Mathlib.Omega.{arith}
use lib.Dec.{lit≤}
use Rattle.shape.specs.declared.shape.Dim.{Dim}
use Rattle.shape.specs.declared.shape.Dim.TheVariants.{X, Y, Z}
use Rattle.machine.specs.Hop.{dir_dim, dir_plus, dir_of, opposite}

pub record Direction (d : Dim) (plus : Bool) (dir : ℕ) : Type 0 where
  pub low : dir ≤ 5
  pub dim : dir_dim dir ≡ d
  pub way : dir_plus dir ≡ plus
  pub back : opposite dir ≡ dir_of d (not plus)

pub direction : (d : Dim) (plus : Bool) → Direction d plus (dir_of d plus)
unfolding dir_dim opposite
direction X true = record { low = lit≤ tt; dim = refl; way = refl; back = refl }
direction X false = record { low = lit≤ tt; dim = refl; way = refl; back = refl }
direction Y true = record { low = lit≤ tt; dim = refl; way = refl; back = refl }
direction Y false = record { low = lit≤ tt; dim = refl; way = refl; back = refl }
direction Z true = record { low = lit≤ tt; dim = refl; way = refl; back = refl }
direction Z false = record { low = lit≤ tt; dim = refl; way = refl; back = refl }

-- What holds of each dimension's two directions holds of every direction.
pub by_direction : (P : ℕ → Type 0) → ((d : Dim) (plus : Bool) → P (dir_of d plus)) → (dir : ℕ) → dir ≤ 5 → P dir
by_direction P f zero h = f X true
by_direction P f (suc zero) h = f X false
by_direction P f (suc (suc zero)) h = f Y true
by_direction P f (suc (suc (suc zero))) h = f Y false
by_direction P f (suc (suc (suc (suc zero)))) h = f Z true
by_direction P f (suc (suc (suc (suc (suc zero))))) h = f Z false
by_direction P f (suc (suc (suc (suc (suc (suc n)))))) h = absurd (omega arith)

-- ---- back over the same link
pub opposite_is : (dir : ℕ) → dir ≤ 5 → Direction (dir_dim dir) (not (dir_plus dir)) (opposite dir)
opposite_is =
    by_direction (λ dir. Direction (dir_dim dir) (not (dir_plus dir)) (opposite dir))
    (λ d plus. let w = direction d plus in rw (w.dim, w.way, w.back) (direction d (not plus)))

pub opposite_twice : (dir : ℕ) → dir ≤ 5 → opposite (opposite dir) ≡ dir
opposite_twice = by_direction (λ dir. opposite (opposite dir) ≡ dir) (λ d plus. rw (direction d plus).back ((direction d (not plus)).back ∙ ap (dir_of d) (twice plus)))
  where
    twice : (b : Bool) → not (not b) ≡ b
    twice true = refl
    twice false = refl
