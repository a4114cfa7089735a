-- Row by row through a plane, and plane by plane.
use Prim.Native.Nat.{ℕ, ◌+◌, ◌*◌, ◌^◌, ◌≤◌, ◌<◌}
use native.Mathlib.Omega.{arith}
use native.Mathlib.Nat.{mod-eq_of_lt}
use mathlib.Core.Path.{◌≡◌, sym, ◌∙◌}
use mathlib.Core.Logic.{inl, inr}
use mathlib.Core.List.{List}
use lib.Bits.{and_mask, and_comm}
use lib.ListN.{length, get_or}
use Rattle.theory.proofs.Cases.{by_order}
use Rattle.shape.specs.declared.shape.Shape.{Shape}
use Rattle.shape.specs.Shape.{shape_error}
use Rattle.search.specs.Number.{unclear}
use Rattle.search.specs.RowNumber.{Lowers, LevelOf, RowHas, RowAt, PlaneHas, SpaceHas, Ready}
use Rattle.search.proofs.Lowering.{kept, lower_both, lower_first}
use Rattle.search.proofs.RowLaws.{row_far}

-- No level is below the first that has a place.
pub none_below : (xs : List ℕ) (least : ℕ) → LevelOf 65535 xs 0 least → ((k : ℕ) → k < 32 → get_or xs k 0 < 65536) → (k : ℕ) → k < least → get_or xs k 0 ≡ 0
none_below xs least w small k l =
    let most = w.most in
    let h : get_or xs k 0 < 2 ^ 16 = small k (omega arith) in
    sym (mod-eq_of_lt h) ∙ sym (and_mask (get_or xs k 0) 16) ∙ and_comm (get_or xs k 0) 65535 ∙ w.before k (omega arith) l

pub ready : (s : Shape) (wx : ℕ) (xs : List ℕ) (least : ℕ) (to : List ℕ) (at : ℕ) → shape_error s ≡ 0 → (1 ≤ wx) × (wx ≤ 8) → LevelOf 65535 xs 0 least → ((k : ℕ) → k < 32 → get_or xs k 0 < 65536) → at + 512 ≤ length to → Ready s wx xs least to at
ready s wx xs least to at h g w small run = record { sound = h; weight = g; none = none_below xs least w small; run = run }

-- With the number of the row's first node as the code has it.
pub row_starts :
    (s : Shape) (wx : ℕ) (xs : List ℕ) (base : ℕ) (fa fd to : List ℕ) (at y z best r first : ℕ) → first ≡ s.x * (y + s.y * z) →
    Lowers best r (RowHas wx xs base first (get_or fa (16 * z + y) 0) (get_or fd (16 * z + y) 0) (get_or to (at + (16 * z + y)) 0) (get_or to (at + (16 * z + y) + 256) 0)) →
    Lowers best r (RowAt s wx xs base fa fd to at y z)
row_starts s wx xs base fa fd to at y z best r first e w = rw e at w

module _ (s : Shape) (wx : ℕ) (xs ys : List ℕ) (fa fd to : List ℕ) (at : ℕ) where
  module _ (part z known : ℕ) where
    pub rows_begin : Lowers known known (PlaneHas s wx xs ys part fa fd to at 0 z)
    rows_begin = kept known (λ n w. absurd (omega (arith, w.below)))

    pub rows_on :
        (y best r : ℕ) → Lowers known best (PlaneHas s wx xs ys part fa fd to at y z) → Lowers best r (RowAt s wx xs (part + get_or ys y 0) fa fd to at y z) →
        Lowers known r (PlaneHas s wx xs ys part fa fd to at (y + 1) z)
    rows_on y best r a b =
        lower_both known best r a b
        (λ n w. by_order w.y y
        (λ l. inl (record { y = w.y; below = l; row = w.row }))
        (λ e. inr (rw e at w.row))
        (λ l. absurd (omega (arith, w.below))))
        (λ n w. record { y = w.y; below = omega (arith, w.below); row = w.row })
        (λ n w. record { y = y; below = omega arith; row = w })

    pub rows_end : (y best : ℕ) → y ≤ s.y → s.y ≤ y → Lowers known best (PlaneHas s wx xs ys part fa fd to at y z) → Lowers known best (PlaneHas s wx xs ys part fa fd to at s.y z)
    rows_end y best h l a = let e : y ≡ s.y = omega arith in rw e at a

    pub plane_far :
        (least low : ℕ) → Ready s wx xs least to at → known ≤ unclear → ((c : ℕ) → c < s.y → low ≤ get_or ys c 0) → known ≤ (part + low + wx * least) * 65536 →
        Lowers known known (PlaneHas s wx xs ys part fa fd to at s.y z)
    plane_far least low h k low-is l =
        kept known (λ n w. (row_far wx xs least (part + get_or ys w.y 0) _ _ _ _ _ known h.weight.0 k h.none (omega (arith, low-is w.y w.below))).each n w.row)

  module _ (zs : List ℕ) (known : ℕ) where
    pub planes_begin : Lowers known known (SpaceHas s wx xs ys zs fa fd to at 0)
    planes_begin = kept known (λ n w. absurd (omega (arith, w.below)))

    pub planes_on :
        (z best r : ℕ) → Lowers known best (SpaceHas s wx xs ys zs fa fd to at z) → Lowers best r (PlaneHas s wx xs ys (get_or zs z 0) fa fd to at s.y z) →
        Lowers known r (SpaceHas s wx xs ys zs fa fd to at (z + 1))
    planes_on z best r a b =
        lower_both known best r a b
        (λ n w. by_order w.z z
        (λ l. inl (record { z = w.z; below = l; plane = w.plane }))
        (λ e. inr (rw e at w.plane))
        (λ l. absurd (omega (arith, w.below))))
        (λ n w. record { z = w.z; below = omega (arith, w.below); plane = w.plane })
        (λ n w. record { z = z; below = omega arith; plane = w })

    pub planes_end : (z best : ℕ) → z ≤ s.z → s.z ≤ z → Lowers known best (SpaceHas s wx xs ys zs fa fd to at z) → Lowers known best (SpaceHas s wx xs ys zs fa fd to at s.z)
    planes_end z best h l a = let e : z ≡ s.z = omega arith in rw e at a

    -- One row before all.
    pub row_first :
        (y z m r : ℕ) → y < s.y → z < s.z → Lowers known m (RowAt s wx xs (get_or zs z 0 + get_or ys y 0) fa fd to at y z) → Lowers m r (SpaceHas s wx xs ys zs fa fd to at s.z) →
        Lowers known r (SpaceHas s wx xs ys zs fa fd to at s.z)
    row_first y z m r hy hz a b = lower_first known m r a b (λ n w. record { z = z; below = hz; plane = record { y = y; below = hy; row = w } })
