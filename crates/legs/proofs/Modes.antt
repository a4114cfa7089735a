-- What the one walk of a deterministic leg crosses, a walk of the adaptive leg can cross, with any rule for half a ring.
use Prim.Native.Nat.{ℕ, ◌<◌}
use mathlib.Core.Path.{◌≡◌}
use mathlib.Core.Bool.{Bool, true, false, cond}
use native.Mathlib.Omega.{arith}
use lib.Dec.{leb, eqb}
use borrow.Author.Tests.{eqb-true}
use Rattle.theory.proofs.Bools.{and_true}
use Rattle.shape.specs.declared.shape.Shape.{Shape}
use Rattle.shape.specs.declared.shape.Coords.{Coords}
use Rattle.shape.specs.declared.shape.Dim.{Dim}
use Rattle.shape.specs.Shape.{extent_of, wrapped_in, coord_of, same_dim, before_dim}
use Rattle.shape.proofs.AxisLaws.{axis_self}
use Rattle.machine.specs.declared.leg.Mode.TheVariants.{Adaptive, Deterministic}
use Rattle.machine.specs.Number.{Inside}
use Rattle.machine.specs.Hop.{dir_dim, dir_plus}
use Rattle.machine.proofs.ByCoords.{inside_at}
use Rattle.legs.specs.Between.{between, crosses, runs}
use Rattle.legs.specs.Crossing.{adaptive_along, deterministic_along, adaptive_crosses, deterministic_crosses, can_cross}
use Rattle.legs.proofs.Axis.{between_by}
use Rattle.legs.proofs.Dims.{all_of, of_all}

-- Both ends lie between them.
between_first : (len : ℕ) (ring : Bool) (p q : ℕ) → p < len → between len ring p p q ≡ true
between_first len ring p q h = between_by len ring p p q h (omega (arith, axis_self len ring p))

between_last : (len : ℕ) (ring : Bool) (p q : ℕ) → q < len → between len ring q p q ≡ true
between_last len ring p q h = between_by len ring q p q h (omega (arith, axis_self len ring q))

module _ (ties : ℕ → Bool) (s : Shape) (u : Coords) (dir : ℕ) (a t : Coords) (ia : Inside s a) (it : Inside s t) where
  along : (d : Dim) → deterministic_along ties s u dir a t d ≡ true → adaptive_along s u dir a t d ≡ true
  unfolding deterministic_along adaptive_along runs
  along d = go (same_dim (dir_dim dir) d) (before_dim d (dir_dim dir))
    where
      go : (b c : Bool) →
          cond b (runs ties (extent_of s d) (wrapped_in s d) (dir_plus dir) (coord_of u d) (coord_of a d) (coord_of t d)) (cond c (eqb (coord_of u d) (coord_of t d)) (eqb (coord_of u d) (coord_of a d))) ≡ true →
          cond b (crosses (extent_of s d) (wrapped_in s d) (dir_plus dir) (coord_of u d) (coord_of a d) (coord_of t d)) (between (extent_of s d) (wrapped_in s d) (coord_of u d) (coord_of a d) (coord_of t d)) ≡ true
      go true c h = (and_true (crosses (extent_of s d) (wrapped_in s d) (dir_plus dir) (coord_of u d) (coord_of a d) (coord_of t d)) _ h).0
      go false true h = rw (eqb-true (coord_of u d) (coord_of t d) h) (between_last (extent_of s d) (wrapped_in s d) (coord_of a d) (coord_of t d) (inside_at s t it d))
      go false false h = rw (eqb-true (coord_of u d) (coord_of a d) h) (between_first (extent_of s d) (wrapped_in s d) (coord_of a d) (coord_of t d) (inside_at s a ia d))

  pub more_crossed : can_cross ties Deterministic s u dir a t ≡ true → can_cross ties Adaptive s u dir a t ≡ true
  unfolding can_cross deterministic_crosses adaptive_crosses
  more_crossed h =
      let k = and_true (leb dir 5) _ h in
      let all = all_of (deterministic_along ties s u dir a t) k.1 in
      rw k.0 (of_all (adaptive_along s u dir a t) (λ d. along d (all d)))
