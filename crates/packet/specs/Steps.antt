-- The code's own steps: drops one at a time, and packets that no check declines.
use Rattle.std.specs.Prelude.{ℕ, ◌≤◌, ◌<◌, ◌≡◌, Bool, cond, ◌&&◌, get_or, ltb, leb, eqb, Option, Some, None, Result, Ok, Err}
use Rattle.numbers.specs.declared.Refusal.{Refusal}
use Rattle.numbers.specs.Refusals.{answer_number}
use Rattle.theory.specs.Machine.{Inside}
use Rattle.theory.specs.Packet as T
use Rattle.theory.specs.Marks.{settle}
use Rattle.shape.specs.declared.shape.Shape.{Shape}
use Rattle.machine.specs.declared.leg.Leg.{Leg}
use Rattle.shape.specs.Shape.{shape_error}
use Rattle.machine.specs.Number.{node_count}
use Rattle.machine.specs.Hop.{neighbour}
use Rattle.machine.specs.Torus.{torus}
use Rattle.packet.specs.declared.packet.Packet.{Packet}
use Rattle.packet.specs.declared.stepper.Stepped.{Stepped}
use Rattle.packet.specs.Packet.{most_legs, no_leg, route_of, put}

abbrev pub leg_at : Packet → ℕ → Leg
leg_at q i = get_or q.legs i no_leg

-- The current leg, where one is left.
abbrev pub front_of : Packet → Leg
front_of q = leg_at q q.mark

-- The same, if one is left.
abbrev pub front_if : Packet → Option Leg
front_if q = cond (ltb q.mark q.count) (Some (front_of q)) None

-- A leg is left, and the current leg's target is the present node.
unfoldable pub ends_here : Packet → Bool
ends_here q = ltb q.mark q.count && eqb (front_of q).target q.node

-- The packet with the drops stored.
unfoldable pub settled : Packet → Packet
settled q = put q q.node (settle (λ l. l.target) (route_of q) q.node q.mark)

-- A packet that neither 5, 6 nor 14 declines.
pub record Fine (s : Shape) (q : Packet) : Type 0 where
  pub sound : shape_error s ≡ 0
  pub few : q.count ≤ most_legs
  pub mark : q.mark ≤ q.count
  pub source : q.source < node_count s
  pub node : q.node < node_count s
  pub route : Inside (torus s) (route_of q)

-- The packet at the other end of a link.
abbrev pub moved : Shape → Packet → ℕ → Packet
moved s q d = put q (neighbour s q.node d) q.mark

-- The current leg; a leg of zeros where none is left.
unfoldable pub front_or : Packet → Leg
front_or q = cond (leb q.count q.mark) no_leg (front_of q)

-- What a call hands back: the packet that it gives, or where it declines the packet that was lent.
abbrev pub stepped : Packet → Result Packet Refusal → Stepped
stepped q (Ok p) = record { packet = p; answer = Ok tt }
stepped q (Err e) = record { packet = q; answer = Err e }

-- That packet, and its number, are those of w.
pub record Gives (q : Packet) (w : T.Stepped Packet) (r : Result Packet Refusal) : Type 0 where
  pub packet : (stepped q r).packet ≡ w.packet
  pub number : answer_number r ≡ w.number
