-- The one walk of a deterministic leg by coordinates: which link it crosses with its first hop, and which after it.
use Prim.Native.Nat.{ℕ}
use mathlib.Core.Bool.{Bool, true, cond, ◌&&◌}
use mathlib.Core.Path.{◌≡◌, refl, sym, ◌∙◌}
use mathlib.Core.Logic.{◌⊎◌, inl, inr}
use lib.Dec.{eqb}
use borrow.Author.Tests.{eqb-true, eqb-false, eq-eqb}
use Rattle.theory.proofs.Bools.{and_true}
use Rattle.theory.proofs.Cases.{test}
use Rattle.shape.specs.declared.shape.Shape.{Shape}
use Rattle.shape.specs.declared.shape.Coords.{Coords}
use Rattle.shape.specs.declared.shape.Dim.{Dim}
use Rattle.shape.specs.declared.shape.Dim.TheVariants.{X, Y, Z}
use Rattle.shape.specs.Shape.{extent_of, coord_of, wrapped_in, same_dim, before_dim}
use Rattle.shape.specs.Axis.{place}
use Rattle.machine.specs.Number.{Inside}
use Rattle.machine.specs.ByCoords.{goes_along, moved_along}
use Rattle.machine.proofs.ByCoords.{inside_at}
use Rattle.machine.proofs.OneDirection.{FirstDim, dim_x, dim_y, dim_z}
use Rattle.legs.specs.Between.{runs}
use Rattle.legs.proofs.Axis.{Running, runs_is, is_runs, runs_apart, run_first, run_back, run_on}

module _ (ties : ℕ → Bool) (s : Shape) where
  -- The link that leaves u along dimension k, plus or minus: in that dimension, its part in dimension d, and the product.
  abbrev pub runs_along : Coords → Bool → Coords → Coords → Dim → Bool
  runs_along u plus c t k = runs ties (extent_of s k) (wrapped_in s k) plus (coord_of u k) (coord_of c k) (coord_of t k)

  abbrev pub part_along : Coords → Dim → Bool → Coords → Coords → Dim → Bool
  part_along u k plus c t d = cond (same_dim k d) (runs_along u plus c t d) (cond (before_dim d k) (eqb (coord_of u d) (coord_of t d)) (eqb (coord_of u d) (coord_of c d)))

  abbrev pub on_walk : Coords → Dim → Bool → Coords → Coords → Bool
  on_walk u k plus c t = part_along u k plus c t X && (part_along u k plus c t Y && part_along u k plus c t Z)

  abbrev RunningAlong : Coords → Bool → Coords → Coords → Dim → Type 0
  RunningAlong u plus c t k = Running ties (extent_of s k) (wrapped_in s k) plus (coord_of u k) (coord_of c k) (coord_of t k)

  is_running : (u : Coords) (plus : Bool) (c t : Coords) (k : Dim) → runs_along u plus c t k ≡ true → RunningAlong u plus c t k
  is_running u plus c t k h = runs_is ties (extent_of s k) (wrapped_in s k) plus (coord_of u k) (coord_of c k) (coord_of t k) h

  apart : (u : Coords) (plus : Bool) (c t : Coords) (k : Dim) → runs_along u plus c t k ≡ true → coord_of c k ≡ coord_of t k → ⊥
  apart u plus c t k h = runs_apart ties (extent_of s k) (wrapped_in s k) plus (coord_of u k) (coord_of c k) (coord_of t k) (is_running u plus c t k h)

  module _ (c t u : Coords) (hc : Inside s c) (ht : Inside s t) (hu : Inside s u) where
    -- ---- with the first hop
    first_along : (k : Dim) (plus : Bool) → FirstDim c t k → goes_along ties s c t k ≡ plus → runs_along c plus c t k ≡ true
    first_along k plus f e =
        is_runs ties _ _ _ _ _ _ (run_first ties (extent_of s k) (wrapped_in s k) (coord_of c k) (coord_of c k) (coord_of t k) (inside_at s c hc k) (inside_at s c hc k) (inside_at s t ht k) plus f.apart e)

    pub walk_first : (k : Dim) (plus : Bool) → FirstDim c t k → goes_along ties s c t k ≡ plus → on_walk c k plus c t ≡ true
    walk_first X plus f e = rw (first_along X plus f e, eq-eqb c.y c.y refl, eq-eqb c.z c.z refl)
    walk_first Y plus f e = rw (eq-eqb c.x t.x (f.done X refl), first_along Y plus f e, eq-eqb c.z c.z refl)
    walk_first Z plus f e = rw (eq-eqb c.x t.x (f.done X refl), eq-eqb c.y t.y (f.done Y refl), first_along Z plus f e)

    -- ---- what is crossed after the first hop is crossed
    back_along : (k : Dim) (w plus : Bool) → FirstDim c t k → goes_along ties s c t k ≡ w → (v : Coords) → coord_of v k ≡ place (extent_of s k) (coord_of c k) w → runs_along u plus v t k ≡ true → runs_along u plus c t k ≡ true
    back_along k w plus f e v at h =
        is_runs ties _ _ _ _ _ _ (run_back ties (extent_of s k) (wrapped_in s k) (coord_of u k) (coord_of c k) (coord_of t k) (inside_at s u hu k) (inside_at s c hc k) (inside_at s t ht k) plus w f.apart e (rw at at (is_running u plus v t k h)))

    pub walk_after : (j k : Dim) (w plus : Bool) → FirstDim c t j → goes_along ties s c t j ≡ w → on_walk u k plus (moved_along s c j w) t ≡ true → on_walk u k plus c t ≡ true
    walk_after X X w plus f e h =
        let v = moved_along s c X w in
        let b = and_true (runs_along u plus v t X) _ h in
        rw (back_along X w plus f e v refl b.0) b.1
    walk_after X Y w plus f e h = h
    walk_after X Z w plus f e h = h
    walk_after Y X w plus f e h = absurd (apart u plus c t X (and_true (runs_along u plus c t X) _ h).0 (f.done X refl))
    walk_after Y Y w plus f e h =
        let v = moved_along s c Y w in
        let a = and_true (eqb u.x t.x) _ h in
        let b = and_true (runs_along u plus v t Y) _ a.1 in
        rw (a.0, back_along Y w plus f e v refl b.0) b.1
    walk_after Y Z w plus f e h = h
    walk_after Z X w plus f e h = absurd (apart u plus c t X (and_true (runs_along u plus c t X) _ h).0 (f.done X refl))
    walk_after Z Y w plus f e h =
        let a = and_true (eqb u.x t.x) _ h in
        absurd (apart u plus c t Y (and_true (runs_along u plus c t Y) _ a.1).0 (f.done Y refl))
    walk_after Z Z w plus f e h =
        let v = moved_along s c Z w in
        let a = and_true (eqb u.x t.x) _ h in
        let b = and_true (eqb u.y t.y) _ a.1 in
        rw (a.0, b.0) (back_along Z w plus f e v refl b.1)

    -- ---- what is crossed is crossed with the first hop or after it
    pub record Now (k : Dim) (plus : Bool) : Type 0 where
      pub same : (d : Dim) → coord_of c d ≡ coord_of u d
      pub first : FirstDim c t k
      pub way : goes_along ties s c t k ≡ plus

    pub record Later (k : Dim) (plus : Bool) : Type 0 where
      pub dim : Dim
      pub first : FirstDim c t dim
      pub rest : on_walk u k plus (moved_along s c dim (goes_along ties s c t dim)) t ≡ true

    on_along : (k : Dim) (plus : Bool) → (coord_of u k ≡ coord_of c k → ⊥) → runs_along u plus c t k ≡ true → (v : Coords) → coord_of v k ≡ place (extent_of s k) (coord_of c k) (goes_along ties s c t k) → runs_along u plus v t k ≡ true
    on_along k plus ne h v at =
        let r = is_running u plus c t k h in
        let run = run_on ties (extent_of s k) (wrapped_in s k) (coord_of u k) (coord_of c k) (coord_of t k) (inside_at s u hu k) (inside_at s c hc k) (inside_at s t ht k) plus ne r in
        is_runs ties _ _ _ _ _ _ (rw (at, r.way) run)

    all_same : c.x ≡ u.x → c.y ≡ u.y → c.z ≡ u.z → (d : Dim) → coord_of c d ≡ coord_of u d
    all_same x y z X = x
    all_same x y z Y = y
    all_same x y z Z = z

    way_along_law : (k : Dim) (plus : Bool) → runs_along u plus c t k ≡ true → goes_along ties s c t k ≡ plus
    way_along_law k plus h = (is_running u plus c t k h).way

    pub walk_split : (k : Dim) (plus : Bool) → on_walk u k plus c t ≡ true → Now k plus ⊎ Later k plus
    walk_split X plus h =
        let a = and_true (runs_along u plus c t X) _ h in
        let b = and_true (eqb u.y c.y) _ a.1 in
        let f = dim_x c t (apart u plus c t X a.0) in
        test (eqb u.x c.x)
        (λ q. inl (record { same = all_same (sym (eqb-true _ _ q)) (sym (eqb-true _ _ b.0)) (sym (eqb-true _ _ b.1)); first = f; way = way_along_law X plus a.0 }))
        (λ q. inr (record { dim = X; first = f; rest = rw (on_along X plus (eqb-false _ _ q) a.0 (moved_along s c X (goes_along ties s c t X)) refl) a.1 }))
    walk_split Y plus h =
        let a = and_true (eqb u.x t.x) _ h in
        let b = and_true (runs_along u plus c t Y) _ a.1 in
        test (eqb c.x t.x)
        (λ x.
        let f = dim_y c t (eqb-true _ _ x) (apart u plus c t Y b.0) in
        test (eqb u.y c.y)
        (λ q. inl (record { same = all_same (eqb-true _ _ x ∙ sym (eqb-true _ _ a.0)) (sym (eqb-true _ _ q)) (sym (eqb-true _ _ b.1)); first = f; way = way_along_law Y plus b.0 }))
        (λ q. inr (record { dim = Y; first = f; rest = rw (a.0, on_along Y plus (eqb-false _ _ q) b.0 (moved_along s c Y (goes_along ties s c t Y)) refl) b.1 })))
        (λ x. inr (record { dim = X; first = dim_x c t (eqb-false _ _ x); rest = h }))
    walk_split Z plus h =
        let a = and_true (eqb u.x t.x) _ h in
        let b = and_true (eqb u.y t.y) _ a.1 in
        test (eqb c.x t.x)
        (λ x. test (eqb c.y t.y)
        (λ y.
        let f = dim_z c t (eqb-true _ _ x) (eqb-true _ _ y) (apart u plus c t Z b.1) in
        test (eqb u.z c.z)
        (λ q. inl (record { same = all_same (eqb-true _ _ x ∙ sym (eqb-true _ _ a.0)) (eqb-true _ _ y ∙ sym (eqb-true _ _ b.0)) (sym (eqb-true _ _ q)); first = f; way = way_along_law Z plus b.1 }))
        (λ q. inr (record { dim = Z; first = f; rest = rw (a.0, b.0) (on_along Z plus (eqb-false _ _ q) b.1 (moved_along s c Z (goes_along ties s c t Z)) refl) })))
        (λ y. inr (record { dim = Y; first = dim_y c t (eqb-true _ _ x) (eqb-false _ _ y); rest = h })))
        (λ x. inr (record { dim = X; first = dim_x c t (eqb-false _ _ x); rest = h }))
