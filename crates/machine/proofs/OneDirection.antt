-- The one direction of a deterministic leg: that of the first dimension where the coordinates differ, with any rule for half a ring.
use Prim.Native.Nat.{ℕ, ◌≤◌, ◌<◌}
use mathlib.Core.Bool.{Bool, true, false≢true}
use mathlib.Core.Path.{◌≡◌, refl, sym, ap, ◌∙◌}
use native.Mathlib.Omega.{arith}
use lib.Dec.{leb, eqb}
use borrow.Author.Tests.{eqb-true, eqb-false, eq-eqb, le-leb, leb-true}
use Rattle.theory.proofs.Bools.{and_true}
use Rattle.theory.proofs.Cases.{test}
use Rattle.shape.specs.declared.shape.Shape.{Shape}
use Rattle.shape.specs.declared.shape.Coords.{Coords}
use Rattle.shape.specs.declared.shape.Dim.{Dim}
use Rattle.shape.specs.declared.shape.Dim.TheVariants.{X, Y, Z}
use Rattle.shape.specs.Shape.{shape_error, coord_of, before_dim}
use Rattle.machine.specs.declared.leg.Mode.TheVariants.{Deterministic}
use Rattle.machine.specs.Number.{node_count, coords_of}
use Rattle.machine.specs.Hop.{dir_dim, dir_plus, dir_of, neighbour}
use Rattle.machine.specs.ByCoords.{goes_along, first_at, allowed_at, moved_along, moved_at}
use Rattle.machine.specs.Torus.{allowed_by}
use Rattle.machine.proofs.Directions.{direction, by_direction}
use Rattle.machine.proofs.ByCoords.{first_x, first_y, first_z, allowed_at_law, neighbour_coords}

-- The first dimension where c and t differ.
pub record FirstDim (c t : Coords) (j : Dim) : Type 0 where
  pub apart : coord_of c j ≡ coord_of t j → ⊥
  pub done : (d : Dim) → before_dim d j ≡ true → coord_of c d ≡ coord_of t d

pub dim_x : (c t : Coords) → (c.x ≡ t.x → ⊥) → FirstDim c t X
dim_x c t ne = record { apart = ne; done = none }
  where
    none : (d : Dim) → before_dim d X ≡ true → coord_of c d ≡ coord_of t d
    none X e = absurd (false≢true e)
    none Y e = absurd (false≢true e)
    none Z e = absurd (false≢true e)

pub dim_y : (c t : Coords) → c.x ≡ t.x → (c.y ≡ t.y → ⊥) → FirstDim c t Y
dim_y c t x ne = record { apart = ne; done = one }
  where
    one : (d : Dim) → before_dim d Y ≡ true → coord_of c d ≡ coord_of t d
    one X e = x
    one Y e = absurd (false≢true e)
    one Z e = absurd (false≢true e)

pub dim_z : (c t : Coords) → c.x ≡ t.x → c.y ≡ t.y → (c.z ≡ t.z → ⊥) → FirstDim c t Z
dim_z c t x y ne = record { apart = ne; done = two }
  where
    two : (d : Dim) → before_dim d Z ≡ true → coord_of c d ≡ coord_of t d
    two X e = x
    two Y e = y
    two Z e = absurd (false≢true e)

of_dir : (dir : ℕ) → dir ≤ 5 → dir_of (dir_dim dir) (dir_plus dir) ≡ dir
of_dir = by_direction (λ dir. dir_of (dir_dim dir) (dir_plus dir) ≡ dir) (λ d plus. let w = direction d plus in rw (w.dim, w.way))

-- Where a hop leads, by coordinates.
pub moved : (s : Shape) → shape_error s ≡ 0 → (p dir : ℕ) → p < node_count s → coords_of s (neighbour s p dir) ≡ moved_along s (coords_of s p) (dir_dim dir) (dir_plus dir)
unfolding moved_at
moved s h p dir at = neighbour_coords s h p at dir

module _ (ties : ℕ → Bool) (s : Shape) where
  first_along : (c t : Coords) (j : Dim) → FirstDim c t j → first_at ties s c t ≡ dir_of j (goes_along ties s c t j)
  first_along c t X f = first_x ties s c t f.apart
  first_along c t Y f = first_y ties s c t (f.done X refl) f.apart
  first_along c t Z f = first_z ties s c t (f.done X refl) (f.done Y refl) f.apart

  first_none : (c t : Coords) → c.x ≡ t.x → c.y ≡ t.y → c.z ≡ t.z → first_at ties s c t ≡ 6
  unfolding first_at
  first_none c t x y z = rw (eq-eqb c.x t.x x, eq-eqb c.y t.y y, eq-eqb c.z t.z z)

  -- The direction dir is the one that the leg takes at c.
  pub record Leads (c t : Coords) (dir : ℕ) : Type 0 where
    pub low : leb dir 5 ≡ true
    pub first : FirstDim c t (dir_dim dir)
    pub way : goes_along ties s c t (dir_dim dir) ≡ dir_plus dir

  pub leads_along : (c t : Coords) (j : Dim) → FirstDim c t j → Leads c t (dir_of j (goes_along ties s c t j))
  leads_along c t j f =
      let w = direction j (goes_along ties s c t j) in
      record { low = le-leb _ 5 w.low; first = rw w.dim f; way = rw (w.dim, w.way) }

  pub allowed_leads : (c t : Coords) (dir : ℕ) → allowed_at ties Deterministic s c t dir ≡ true → Leads c t dir
  unfolding allowed_at
  allowed_leads c t dir h =
      let both = and_true (leb dir 5) _ h in
      let e = eqb-true dir (first_at ties s c t) both.1 in
      let by : (j : Dim) → FirstDim c t j → Leads c t dir = λ j f. rw (e ∙ first_along c t j f) (leads_along c t j f) in
      test (eqb c.x t.x)
      (λ x. test (eqb c.y t.y)
      (λ y. test (eqb c.z t.z)
      (λ z. absurd (omega (arith, e, first_none c t (eqb-true _ _ x) (eqb-true _ _ y) (eqb-true _ _ z), leb-true dir 5 both.0)))
      (λ z. by Z (dim_z c t (eqb-true _ _ x) (eqb-true _ _ y) (eqb-false _ _ z))))
      (λ y. by Y (dim_y c t (eqb-true _ _ x) (eqb-false _ _ y))))
      (λ x. by X (dim_x c t (eqb-false _ _ x)))

  pub leads_allowed : (c t : Coords) (dir : ℕ) → Leads c t dir → allowed_at ties Deterministic s c t dir ≡ true
  unfolding allowed_at
  leads_allowed c t dir k =
      rw k.low (eq-eqb dir (first_at ties s c t) (sym (first_along c t (dir_dim dir) k.first ∙ ap (dir_of (dir_dim dir)) k.way ∙ of_dir dir (leb-true dir 5 k.low))))

  -- Of nodes.
  module _ (h : shape_error s ≡ 0) (p dir : ℕ) (at : p < node_count s) (t : ℕ) where
    pub leads_at : allowed_by ties Deterministic s p t dir ≡ true → Leads (coords_of s p) (coords_of s t) dir
    leads_at a = allowed_leads (coords_of s p) (coords_of s t) dir (sym (allowed_at_law s h p at t ties Deterministic dir) ∙ a)

    pub at_leads : Leads (coords_of s p) (coords_of s t) dir → allowed_by ties Deterministic s p t dir ≡ true
    at_leads k = allowed_at_law s h p at t ties Deterministic dir ∙ leads_allowed (coords_of s p) (coords_of s t) dir k
