-- The torus or mesh meets what taking a hop back asks.
use Prim.Native.Nat.{ℕ, ◌<◌}
use mathlib.Core.Path.{◌≡◌, sym, ap, ◌∙◌}
use mathlib.Core.Logic.{◌↔◌}
use mathlib.Core.Bool.{true}
use Rattle.theory.specs.Back.{Crosses, BackLaws}
use Rattle.shape.specs.declared.shape.Shape.{Shape}
use Rattle.shape.specs.Shape.{shape_error}
use Rattle.machine.specs.declared.leg.Mode.{Mode}
use Rattle.machine.specs.declared.leg.Mode.TheVariants.{Adaptive, Deterministic}
use Rattle.machine.specs.Number.{node_count, coords_of}
use Rattle.machine.specs.Hop.{opposite, neighbour, rule}
use Rattle.machine.specs.Torus.{torus, leg}
use Rattle.machine.proofs.Directions.{opposite_is, opposite_twice}
use Rattle.machine.proofs.ByCoords.{neighbour_below}
use Rattle.machine.proofs.Laws.{useful_link, low, there_and_back, neighbour_back}
use Rattle.machine.proofs.Torus.{torus_laws, allowed_useful}
use Rattle.legs.specs.Crossing.{can_cross}
use Rattle.legs.specs.Backward.{against, backward}
use Rattle.legs.proofs.Walks.{crossings_walk}
use Rattle.legs.proofs.Adaptive.{adaptive_crossings}
use Rattle.legs.proofs.Deterministic.{deterministic_crossings}

module _ (s : Shape) (h : shape_error s ≡ 0) where
  crossed : (m : Mode) (t a u d : ℕ) → a < node_count s → u < node_count s → t < node_count s → (can_cross rule m s (coords_of s u) d (coords_of s a) (coords_of s t) ≡ true) ↔ Crosses (torus s) (leg t m) a u d
  unfolding can_cross
  crossed Adaptive t a u d at hu end = crossings_walk (torus s) (torus_laws s h) (leg t Adaptive) end _ (adaptive_crossings s h t end rule) a u d at hu
  crossed Deterministic t a u d at hu end = crossings_walk (torus s) (torus_laws s h) (leg t Deterministic) end _ (deterministic_crossings rule s h t end) a u d at hu

  pub torus_backward : BackLaws (torus s) (backward s)
  unfolding against
  torus_backward = record {
    inside = λ p d at. neighbour_below s h p at (opposite d);
    home = λ l p d at end a. neighbour_back s h p d at (useful_link s p l.target d (allowed_useful s h p l.target at end l.mode d a));
    forth = λ l p d at end a.
        let b = neighbour s p (opposite d) in
        let hb = neighbour_below s h p at (opposite d) in
        let k = low s h b d hb (useful_link s b l.target d (allowed_useful s h b l.target hb end l.mode d a)) in
        ap (neighbour s b) (sym (opposite_twice d k)) ∙ there_and_back s h p (opposite d) at (opposite_is d k).low;
    crossed = λ l. crossed l.mode l.target;
  }
