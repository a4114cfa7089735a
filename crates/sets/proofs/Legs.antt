-- One leg: each loss is tried, dimension by dimension.
use Prim.Native.Nat.{ℕ, zero, suc, ◌/◌, ◌≤◌, ◌<◌}
use mathlib.Core.Bool.{Bool, true, false, not, ◌||◌, ◌&&◌}
use mathlib.Core.Path.{◌≡◌, refl, sym, ap, ◌∙◌}
use mathlib.Core.List.{List, [], ◌∷◌}
use Rattle.std.specs.List.{list_any}
use lib.ListN.{length, get_or}
use borrow.Author.Tests.{lt-ltb, le-ltb, eq-eqb, ne_eqb}
use Rattle.shape.specs.declared.shape.Shape.{Shape}
use Rattle.shape.specs.declared.shape.Coords.{Coords}
use Rattle.shape.specs.declared.shape.Dim.{Dim}
use Rattle.shape.specs.declared.shape.Dim.TheVariants.{X, Y, Z}
use Rattle.machine.specs.declared.leg.Mode.{Mode}
use Rattle.machine.specs.Hop.{rule}
use Rattle.losses.specs.Loss.{loss_at, loss_meets, some_below, on_leg}
use Rattle.masks.specs.Masks.{dim_at}
use Rattle.sets.specs.Part.{dim_number, cell_in, cells_in, dead_cells, loss_cells}
use Rattle.sets.proofs.Columns.{loss_met}

-- ---- `&&` and `||` of two tests, as they are joined
module _ (x X y Y v : Bool) where
  pub and_then : x ≡ X → x ≡ true → y ≡ Y → v ≡ y → v ≡ (X && Y)
  and_then ex t ey ev = rw (← ex, t, ev, ey)

  pub or_else : x ≡ X → x ≡ false → y ≡ Y → v ≡ y → v ≡ (X || Y)
  or_else ex t ey ev = rw (← ex, t, ev, ey)

module _ (x X Y v : Bool) where
  pub and_else : x ≡ X → x ≡ false → v ≡ x → v ≡ (X && Y)
  and_else ex t ev = rw (← ex, ev, t)

  pub or_then : x ≡ X → x ≡ true → v ≡ x → v ≡ (X || Y)
  or_then ex t ev = rw (← ex, ev, t)

pub dim_back : (d : Dim) → dim_at (dim_number d) ≡ d
dim_back X = refl
dim_back Y = refl
dim_back Z = refl

-- ---- one product, in the order of the tests
module _ (m : Mode) (s : Shape) (kind w : ℕ) (a t : Coords) where
  abbrev pub x_in : Bool
  x_in = cell_in m s kind 0 (loss_at w) a t

  abbrev pub y_in : Bool
  y_in = cell_in m s kind 1 (loss_at w) a t

  abbrev pub z_in : Bool
  z_in = cell_in m s kind 2 (loss_at w) a t

  pub x_first : (v : Bool) → v ≡ ((x_in && y_in) && z_in) → v ≡ cells_in m s kind (loss_at w) a t
  unfolding cells_in
  x_first v e = e ∙ go x_in y_in
    where
      go : (a b : Bool) → ((a && b) && z_in) ≡ (a && (b && z_in))
      go true b = refl
      go false b = refl

  pub x_last : (v : Bool) → v ≡ ((y_in && z_in) && x_in) → v ≡ cells_in m s kind (loss_at w) a t
  unfolding cells_in
  x_last v e = e ∙ go x_in (y_in && z_in)
    where
      go : (a b : Bool) → (b && a) ≡ (a && b)
      go true true = refl
      go true false = refl
      go false true = refl
      go false false = refl

pub dead_is : (m : Mode) (s : Shape) (u a t : Coords) (v : Bool) → v ≡ ((cells_in m s 9 u a t || cells_in m s 10 u a t) || cells_in m s 11 u a t) → v ≡ dead_cells m s u a t
unfolding dead_cells
dead_is m s u a t v e = e ∙ go (cells_in m s 9 u a t) (cells_in m s 10 u a t) (cells_in m s 11 u a t)
  where
    go : (x y z : Bool) → ((x || y) || z) ≡ (x || (y || z))
    go true y z = refl
    go false y z = refl

-- ---- one loss
pub loss_part : (m : Mode) (s : Shape) (w : ℕ) (a t : Coords) (r : Bool) → w / 4096 < 9 → r ≡ cells_in m s (w / 4096) (loss_at w) a t → r ≡ loss_meets rule m s w a t
unfolding loss_cells
loss_part m s w a t r h e = e ∙ (rw (lt-ltb (w / 4096) 9 h) at (loss_met m s w a t))

pub loss_dead : (m : Mode) (s : Shape) (w : ℕ) (a t : Coords) (r : Bool) → 9 ≤ w / 4096 → w / 4096 ≡ 9 → r ≡ dead_cells m s (loss_at w) a t → r ≡ loss_meets rule m s w a t
unfolding loss_cells
loss_dead m s w a t r h k e = e ∙ (rw (le-ltb (w / 4096) 9 h, eq-eqb (w / 4096) 9 k) at (loss_met m s w a t))

pub loss_none : (m : Mode) (s : Shape) (w : ℕ) (a t : Coords) → 9 ≤ w / 4096 → (w / 4096 ≡ 9 → ⊥) → false ≡ loss_meets rule m s w a t
unfolding loss_cells
loss_none m s w a t h k = rw (le-ltb (w / 4096) 9 h, ne_eqb (w / 4096) 9 k) at (loss_met m s w a t)

-- ---- one of all
-- The first of them apart.
some_first : (n : ℕ) (f : ℕ → Bool) → some_below (suc n) f ≡ (f 0 || some_below n (λ i. f (suc i)))
unfolding some_below
some_first zero f = refl
some_first (suc n) f = ap (λ (b : Bool). f (suc n) || b) (some_first n f) ∙ swap (f (suc n)) (f 0) (some_below n (λ i. f (suc i)))
  where
    swap : (a b c : Bool) → (a || (b || c)) ≡ (b || (a || c))
    swap true true c = refl
    swap true false c = refl
    swap false b c = refl

any_below : (f : ℕ → Bool) (l : List ℕ) → list_any f l ≡ some_below (length l) (λ i. f (get_or l i 0))
unfolding some_below
any_below f [] = refl
any_below f (x ∷ l) = ap (λ (b : Bool). f x || b) (any_below f l) ∙ sym (some_first (length l) (λ i. f (get_or (x ∷ l) i 0)))

pub any_met : (m : Mode) (s : Shape) (losses : List ℕ) (a t : Coords) (v : Bool) → v ≡ list_any (λ w. loss_meets rule m s w a t) losses → not v ≡ not (on_leg rule m s losses (length losses) a t)
unfolding on_leg
any_met m s losses a t v e = rw (e, any_below (λ w. loss_meets rule m s w a t) losses)
