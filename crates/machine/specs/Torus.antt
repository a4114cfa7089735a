-- The machine of document 01 as a machine of the theory: directions that a leg's mode allows, and hops.
use Rattle.std.specs.Prelude.{ℕ, Bool, ◌&&◌, leb, eqb}
use Rattle.theory.specs.Machine.{Machine}
use Rattle.shape.specs.declared.shape.Shape.{Shape}
use Rattle.machine.specs.declared.leg.Mode.{Mode}
use Rattle.machine.specs.declared.leg.Mode.TheVariants.{Adaptive, Deterministic}
use Rattle.machine.specs.declared.leg.Leg.{Leg}
use Rattle.machine.specs.Number.{node_count}
use Rattle.machine.specs.Hop.{hops, neighbour, useful, rule, first_direction}

-- An adaptive leg may take any useful hop at each node, a deterministic leg its one direction.
unfoldable pub allowed_by : (ℕ → Bool) → Mode → Shape → ℕ → ℕ → ℕ → Bool
allowed_by ties Adaptive s n t dir = useful s n t dir
allowed_by ties Deterministic s n t dir = leb dir 5 && eqb dir (first_direction ties s n t)

-- The leg to t in mode m.
abbrev pub leg : ℕ → Mode → Leg
leg t m = record { target = t; mode = m }

-- The machine, by the directions that a leg allows at a node; with any rule for half a ring; and with the rule in force.
abbrev pub torus_of : (Leg → ℕ → ℕ → Bool) → Shape → Machine Leg
torus_of allowed s = record { size = node_count s; ways = 6; next = neighbour s; hops = hops s; target = λ l. l.target; allowed = allowed }

abbrev pub torus_by : (ℕ → Bool) → Shape → Machine Leg
torus_by ties s = torus_of (λ l n dir. allowed_by ties l.mode s n l.target dir) s

abbrev pub torus : Shape → Machine Leg
torus s = torus_by rule s
