-- What the torus or mesh of a shape tells of hops taken back.
use Rattle.std.specs.Prelude.{ℕ}
use Rattle.theory.specs.Back.{Backward}
use Rattle.shape.specs.declared.shape.Shape.{Shape}
use Rattle.machine.specs.declared.leg.Leg.{Leg}
use Rattle.machine.specs.Number.{coords_of}
use Rattle.machine.specs.Hop.{opposite, neighbour, rule}
use Rattle.legs.specs.Crossing.{can_cross}

-- The neighbour of node p against the direction dir.
unfoldable pub against : Shape → ℕ → ℕ → ℕ
against s p dir = neighbour s p (opposite dir)

abbrev pub backward : Shape → Backward Leg
backward s = record { against = against s; crosses = λ l a u dir. can_cross rule l.mode s (coords_of s u) dir (coords_of s a) (coords_of s l.target) }
