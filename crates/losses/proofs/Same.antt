-- The test for equal coordinates.
use Prim.Native.Nat.{ℕ}
use mathlib.Core.Path.{◌≡◌, sym, ap, ◌∙◌}
use mathlib.Core.Bool.{true}
use lib.Dec.{eqb}
use borrow.Author.Tests.{eqb-true, eq-eqb}
use Rattle.theory.proofs.Bools.{and_true, same_test}
use Rattle.shape.specs.declared.shape.Shape.{Shape}
use Rattle.shape.specs.declared.shape.Coords.{Coords}
use Rattle.shape.specs.Shape.{shape_error}
use Rattle.machine.specs.Number.{number_of, coords_of}
use Rattle.machine.proofs.Numbers.{number_coords}
use Rattle.losses.specs.Loss.{same_coords}

pub same_is : (c t : Coords) → same_coords c t ≡ true → c ≡ t
same_is c t e =
    let x = and_true (eqb c.x t.x) _ e in
    let y = and_true (eqb c.y t.y) _ x.1 in
    λ i. record { x = eqb-true c.x t.x x.0 i; y = eqb-true c.y t.y y.0 i; z = eqb-true c.z t.z y.1 i }

pub is_same : (c t : Coords) → c ≡ t → same_coords c t ≡ true
is_same c t e = rw (eq-eqb c.x t.x (ap (λ (k : Coords). k.x) e), eq-eqb c.y t.y (ap (λ (k : Coords). k.y) e), eq-eqb c.z t.z (ap (λ (k : Coords). k.z) e))

-- Of two nodes: they are one.
pub same_nodes : (s : Shape) → shape_error s ≡ 0 → (m n : ℕ) → same_coords (coords_of s m) (coords_of s n) ≡ eqb m n
same_nodes s h m n =
    same_test (same_coords (coords_of s m) (coords_of s n)) (eqb m n)
    (λ e. eq-eqb m n (sym (number_coords s h m) ∙ ap (number_of s) (same_is (coords_of s m) (coords_of s n) e) ∙ number_coords s h n))
    (λ e. is_same (coords_of s m) (coords_of s n) (ap (coords_of s) (eqb-true m n e)))
