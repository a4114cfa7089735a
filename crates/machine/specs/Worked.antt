-- Half a ring by the rule in force, in numbers.
use Rattle.std.specs.Prelude.{ℕ, [], ◌∷◌, ◌≡◌}
use Rattle.theory.specs.Clear.{Allows}
use Rattle.shape.specs.declared.shape.Shape.{Shape}
use Rattle.machine.specs.declared.leg.Mode.TheVariants.{Adaptive, Deterministic}
use Rattle.machine.specs.Hop.{first_direction, rule}
use Rattle.machine.specs.Torus.{torus, leg}

-- A ring of n nodes in X; and three rings of n nodes side by side in Y, where a node's number is not its coordinate.
abbrev pub ring_of : ℕ → Shape
ring_of n = record { x = n; y = 1; z = 1; wrap = 1 }

abbrev pub three_of : ℕ → Shape
three_of n = record { x = 3; y = n; z = 1; wrap = 2 }

-- Rings of 4, 6 and 16, from an even and an odd place; round a ring of 6 the other end's place is of the other kind. Then rings of 6 in Y, where node 1 has
-- coordinate 0 and node 4 coordinate 1.
pub record Worked : Type 0 where
  pub even_4 : first_direction rule (ring_of 4) 0 2 ≡ 0
  pub odd_4 : first_direction rule (ring_of 4) 1 3 ≡ 1
  pub even_6 : first_direction rule (ring_of 6) 2 5 ≡ 0
  pub odd_6 : first_direction rule (ring_of 6) 5 2 ≡ 1
  pub even_16 : first_direction rule (ring_of 16) 14 6 ≡ 0
  pub odd_16 : first_direction rule (ring_of 16) 7 15 ≡ 1
  pub number_odd : first_direction rule (three_of 6) 1 10 ≡ 2
  pub number_even : first_direction rule (three_of 6) 4 13 ≡ 3
  -- One that is under way goes on, from places of both kinds.
  pub walk_even : Allows (torus (ring_of 6)) (leg 3 Deterministic) 0 (0 ∷ 0 ∷ 0 ∷ [])
  pub walk_odd : Allows (torus (ring_of 6)) (leg 4 Deterministic) 1 (1 ∷ 1 ∷ 1 ∷ [])
  -- An adaptive leg may go either way.
  pub either_plus : Allows (torus (ring_of 6)) (leg 4 Adaptive) 1 (0 ∷ 0 ∷ 0 ∷ [])
  pub either_minus : Allows (torus (ring_of 6)) (leg 4 Adaptive) 1 (1 ∷ 1 ∷ 1 ∷ [])
