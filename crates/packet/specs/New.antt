-- The legs of a route, and the new packet of legs.
use Rattle.std.specs.Prelude.{ℕ, ◌-◌, List, [], ◌∷◌, ◌++◌, length, replicate}
use Rattle.theory.specs.Marks.{passed}
use Rattle.machine.specs.declared.leg.Leg.{Leg}
use Rattle.machine.specs.Torus.{leg}
use Rattle.packet.specs.declared.packet.Packet.{Packet}
use Rattle.packet.specs.declared.route.Route.{Route}
use Rattle.packet.specs.Packet.{most_legs, no_leg, packet_with}

-- The legs of a route to D.
unfoldable pub legs_to : ℕ → Route → List Leg
legs_to D (Route.Direct m) = leg D m ∷ []
legs_to D (Route.Via v m n) = leg v m ∷ leg D n ∷ []
legs_to D (Route.Vias v w m n o) = leg v m ∷ leg w n ∷ leg D o ∷ []

-- An array that begins with these legs; behind them it holds the first of them.
abbrev pub first_or : List Leg → Leg
first_or [] = no_leg
first_or (l ∷ ls) = l

abbrev pub array_with : List Leg → List Leg
array_with ls = ls ++ replicate (most_legs - length ls) (first_or ls)

-- A new packet is at the source S of its route, with the mark on its first leg still to travel: past the legs that end there.
unfoldable pub new_packet : ℕ → List Leg → Packet
new_packet S ls = packet_with S S (array_with ls) (length ls) (passed (λ l. l.target) S ls)

-- The code's own step: with the mark on the first leg.
unfoldable pub source_packet : ℕ → List Leg → Packet
source_packet S ls = packet_with S S (array_with ls) (length ls) 0
