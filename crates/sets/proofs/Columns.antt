-- The columns in each dimension are the parts of what lies on a leg.
use Prim.Native.Nat.{ℕ, zero, suc, ◌≤◌, ◌<◌}
use mathlib.Core.Bool.{Bool, true, false, ◌&&◌, ◌||◌}
use mathlib.Core.Path.{◌≡◌, refl, ◌∙◌}
use native.Mathlib.Omega.{arith}
use lib.Dec.{ltb}
use borrow.Author.Tests.{lt-ltb, le-ltb}
use Rattle.theory.proofs.Cases.{by_le, by_order}
use Rattle.shape.specs.declared.shape.Shape.{Shape}
use Rattle.shape.specs.declared.shape.Coords.{Coords}
use Rattle.shape.specs.declared.shape.Dim.{Dim}
use Rattle.shape.specs.declared.shape.Dim.TheVariants.{X, Y, Z}
use Rattle.shape.specs.Shape.{extent_of, wrapped_in, coord_of}
use Rattle.shape.specs.Axis.{place}
use Rattle.machine.specs.declared.leg.Mode.{Mode}
use Rattle.machine.specs.declared.leg.Mode.TheVariants.{Adaptive, Deterministic}
use Rattle.machine.specs.Hop.{dir_dim, rule}
use Rattle.machine.specs.ByCoords.{moved_at}
use Rattle.legs.specs.Crossing.{adaptive_along, adaptive_crosses, deterministic_along, deterministic_crosses, can_cross}
use Rattle.losses.specs.Loss.{loss_at, loss_kind, plus_of, link_meets, links_meet, node_meets, loss_meets}
use Rattle.masks.specs.Cell.{takes, takes_link, takes_links, passes_before, passes_behind, cell}
use Rattle.sets.specs.Part.{kind_dim, kind_own, column, cell_in, cells_in, dead_cells, loss_cells}

-- ---- one direction of a link
cells_cross : (m : Mode) (s : Shape) (dir : ℕ) (u a t : Coords) → dir < 6 → cells_in m s dir u a t ≡ can_cross rule m s u dir a t
unfolding can_cross adaptive_crosses deterministic_crosses adaptive_along deterministic_along cells_in cell_in cell takes passes_before passes_behind column kind_dim kind_own dir_dim
cells_cross Adaptive s zero u a t h = refl
cells_cross Adaptive s (suc zero) u a t h = refl
cells_cross Adaptive s (suc (suc zero)) u a t h = refl
cells_cross Adaptive s (suc (suc (suc zero))) u a t h = refl
cells_cross Adaptive s (suc (suc (suc (suc zero)))) u a t h = refl
cells_cross Adaptive s (suc (suc (suc (suc (suc zero))))) u a t h = refl
cells_cross Deterministic s zero u a t h = refl
cells_cross Deterministic s (suc zero) u a t h = refl
cells_cross Deterministic s (suc (suc zero)) u a t h = refl
cells_cross Deterministic s (suc (suc (suc zero))) u a t h = refl
cells_cross Deterministic s (suc (suc (suc (suc zero)))) u a t h = refl
cells_cross Deterministic s (suc (suc (suc (suc (suc zero))))) u a t h = refl
cells_cross m s (suc (suc (suc (suc (suc (suc n)))))) u a t h = absurd (omega arith)

-- ---- a link both ways: its own column joins the two directions
in_x : (p g q b c : Bool) → ((p || (g && q)) && (b && c)) ≡ ((p && (b && c)) || (g && (q && (b && c))))
in_x true g q true true = refl
in_x true true true false c = refl
in_x true true false false c = refl
in_x true false q false c = refl
in_x true true true true false = refl
in_x true true false true false = refl
in_x true false q true false = refl
in_x false true q b c = refl
in_x false false q b c = refl

in_y : (a p g q c : Bool) → (a && ((p || (g && q)) && c)) ≡ ((a && (p && c)) || (g && (a && (q && c))))
in_y true true g q true = refl
in_y true true true true false = refl
in_y true true true false false = refl
in_y true true false q false = refl
in_y true false true q c = refl
in_y true false false q c = refl
in_y false p true q c = refl
in_y false p false q c = refl

in_z : (a b p g q : Bool) → (a && (b && (p || (g && q)))) ≡ ((a && (b && p)) || (g && (a && (b && q))))
in_z true true true g q = refl
in_z true true false true q = refl
in_z true true false false q = refl
in_z true false p true q = refl
in_z true false p false q = refl
in_z false b p true q = refl
in_z false b p false q = refl

both_ways : {p r q t : Bool} (g : Bool) → p ≡ r → q ≡ t → (p || (g && q)) ≡ (r || (g && t))
both_ways g e f = rw (e, f)

module _ (m : Mode) (s : Shape) (u a t : Coords) where
  abbrev taken : Dim → Bool → ℕ → Bool
  taken d plus c = takes m (extent_of s d) (wrapped_in s d) plus c (coord_of a d) (coord_of t d)

  abbrev before : Dim → Bool
  before d = passes_before m (extent_of s d) (wrapped_in s d) (coord_of u d) (coord_of a d) (coord_of t d)

  abbrev behind : Dim → Bool
  behind d = passes_behind m (extent_of s d) (wrapped_in s d) (coord_of u d) (coord_of a d) (coord_of t d)

  link_x : cells_in m s 6 u a t ≡ link_meets rule m s u 0 a t
  unfolding link_meets cells_in cell_in cell takes_link column kind_dim kind_own dir_dim moved_at
  link_x =
      in_x (taken X true u.x) (ltb u.x s.x) (taken X false (place s.x u.x true)) (behind Y) (behind Z)
      ∙ both_ways (ltb u.x s.x) (cells_cross m s 0 u a t (omega arith)) (cells_cross m s 1 (moved_at s u 0) a t (omega arith))

  link_y : cells_in m s 7 u a t ≡ link_meets rule m s u 2 a t
  unfolding link_meets cells_in cell_in cell takes_link column kind_dim kind_own dir_dim moved_at
  link_y =
      in_y (before X) (taken Y true u.y) (ltb u.y s.y) (taken Y false (place s.y u.y true)) (behind Z)
      ∙ both_ways (ltb u.y s.y) (cells_cross m s 2 u a t (omega arith)) (cells_cross m s 3 (moved_at s u 2) a t (omega arith))

  link_z : cells_in m s 8 u a t ≡ link_meets rule m s u 4 a t
  unfolding link_meets cells_in cell_in cell takes_link column kind_dim kind_own dir_dim moved_at
  link_z =
      in_z (before X) (before Y) (taken Z true u.z) (ltb u.z s.z) (taken Z false (place s.z u.z true))
      ∙ both_ways (ltb u.z s.z) (cells_cross m s 4 u a t (omega arith)) (cells_cross m s 5 (moved_at s u 4) a t (omega arith))

  cells_link : (kind : ℕ) → 6 ≤ kind → kind < 9 → cells_in m s kind u a t ≡ link_meets rule m s u (plus_of kind) a t
  cells_link kind h k =
      by_order kind 7
      (λ l. let e : kind ≡ 6 = omega arith in rw e link_x)
      (λ e. rw e link_y)
      (λ l. let e : kind ≡ 8 = omega arith in rw e link_z)

-- ---- a dead node: in each dimension the link that leaves it in plus, and the one that comes to it so
or_x : (p q b c : Bool) → ((p || q) && (b && c)) ≡ ((p && (b && c)) || (q && (b && c)))
or_x true q true true = refl
or_x true true true false = refl
or_x true false true false = refl
or_x true true false c = refl
or_x true false false c = refl
or_x false q b c = refl

or_y : (a p q c : Bool) → (a && ((p || q) && c)) ≡ ((a && (p && c)) || (a && (q && c)))
or_y true true q true = refl
or_y true true true false = refl
or_y true true false false = refl
or_y true false q c = refl
or_y false p q c = refl

or_z : (a b p q : Bool) → (a && (b && (p || q))) ≡ ((a && (b && p)) || (a && (b && q)))
or_z true true true q = refl
or_z true true false q = refl
or_z true false p q = refl
or_z false b p q = refl

either_one : {p r q t : Bool} → p ≡ r → q ≡ t → (p || q) ≡ (r || t)
either_one e f = rw (e, f)

module _ (m : Mode) (s : Shape) (u a t : Coords) where
  abbrev linked : Dim → ℕ → Bool
  linked d c = takes_link m (extent_of s d) (wrapped_in s d) c (coord_of a d) (coord_of t d)

  links_x : cells_in m s 9 u a t ≡ links_meet rule m s u 0 a t
  unfolding links_meet cells_in cell_in cell takes_links column kind_dim kind_own dir_dim moved_at
  links_x =
      or_x (linked X u.x) (linked X (place s.x u.x false)) (behind m s u a t Y) (behind m s u a t Z)
      ∙ either_one (link_x m s u a t) (link_x m s (moved_at s u 1) a t)

  links_y : cells_in m s 10 u a t ≡ links_meet rule m s u 2 a t
  unfolding links_meet cells_in cell_in cell takes_links column kind_dim kind_own dir_dim moved_at
  links_y =
      or_y (before m s u a t X) (linked Y u.y) (linked Y (place s.y u.y false)) (behind m s u a t Z)
      ∙ either_one (link_y m s u a t) (link_y m s (moved_at s u 3) a t)

  links_z : cells_in m s 11 u a t ≡ links_meet rule m s u 4 a t
  unfolding links_meet cells_in cell_in cell takes_links column kind_dim kind_own dir_dim moved_at
  links_z =
      or_z (before m s u a t X) (before m s u a t Y) (linked Z u.z) (linked Z (place s.z u.z false))
      ∙ either_one (link_z m s u a t) (link_z m s (moved_at s u 5) a t)

  cells_node : dead_cells m s u a t ≡ node_meets rule m s u a t
  unfolding dead_cells node_meets
  cells_node = either_one links_x (either_one links_y links_z)

-- ---- a loss
pub loss_met : (m : Mode) (s : Shape) (w : ℕ) (a t : Coords) → loss_cells m s w a t ≡ loss_meets rule m s w a t
unfolding loss_cells loss_meets
loss_met m s w a t =
    by_le 6 (loss_kind w)
    (λ h. rw (le-ltb (loss_kind w) 6 h, cells_node m s (loss_at w) a t) (by_le 9 (loss_kind w) (λ k. rw (le-ltb (loss_kind w) 9 k)) (λ k. rw (lt-ltb (loss_kind w) 9 k) (cells_link m s (loss_at w) a t (loss_kind w) h k))))
    (λ h. rw (lt-ltb (loss_kind w) 6 h, lt-ltb (loss_kind w) 9 (omega arith)) (cells_cross m s (loss_kind w) (loss_at w) a t h))
