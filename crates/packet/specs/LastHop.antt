-- The code's own steps: the leg that the last hop was made on, and whether it was made so.
use Rattle.std.specs.Prelude.{ℕ, Bool, Option, Some, None}
use Rattle.std.proofs.Math.Option as M
use Rattle.theory.specs.Marks.{begins}
use Rattle.theory.specs.Back.{last_leg}
use Rattle.shape.specs.declared.shape.Shape.{Shape}
use Rattle.shape.specs.declared.shape.Coords.{Coords}
use Rattle.machine.specs.Number.{coords_of}
use Rattle.machine.specs.Hop.{rule}
use Rattle.legs.specs.Crossing.{can_cross}
use Rattle.packet.specs.declared.packet.Packet.{Packet}
use Rattle.packet.specs.Packet.{route_of}
use Rattle.packet.specs.Steps.{leg_at}

-- Where leg number i begins.
abbrev pub begin_at : Packet → ℕ → ℕ
begin_at q i = begins (λ l. l.target) q.source (route_of q) i

-- A number, if there is one, as the code's option.
abbrev pub number_if : M.Option ℕ → Option ℕ
number_if M.none = None
number_if (M.some i) = Some i

-- The leg of the last hop, from the mark i down.
abbrev pub last_of : Packet → ℕ → Option ℕ
last_of q i = number_if (last_leg (begin_at q) q.node i)

-- Some walk of leg number i crosses the link that leaves the place u in direction dir.
unfoldable pub came_on : Shape → Packet → Coords → ℕ → ℕ → Bool
came_on s q u dir i = can_cross rule (leg_at q i).mode s u dir (coords_of s (begin_at q i)) (coords_of s (leg_at q i).target)
