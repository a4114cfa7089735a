-- 'The packet' as the code stores it, on the torus or mesh of a shape.
use Rattle.std.specs.Prelude.{ℕ, zero, suc, ◌≤◌, Bool, false, ◌||◌, List, [], ◌∷◌, get_or, ltb, leb}
use Rattle.numbers.specs.Numbers.{wrong_packet}
use Rattle.theory.specs.Checks.{declined, ◌then◌}
use Rattle.theory.specs.Packet.{Packets}
use Rattle.theory.specs.Marks.{Marks, marked}
use Rattle.shape.specs.declared.shape.Shape.{Shape}
use Rattle.shape.specs.Shape.{shape_error}
use Rattle.machine.specs.declared.leg.Leg.{Leg}
use Rattle.machine.specs.declared.leg.Mode.TheVariants.{Adaptive}
use Rattle.machine.specs.Number.{node_count}
use Rattle.machine.specs.Torus.{torus}
use Rattle.packet.specs.declared.packet.Packet.{Packet}

-- The legs of a route, at most three.
abbrev pub most_legs : ℕ
most_legs = 3

-- The n legs of an array from place i on, as the code reads them: past an array's end stands a leg of zeros.
abbrev pub no_leg : Leg
no_leg = record { target = 0; mode = Adaptive }

unfoldable pub legs_from : List Leg → ℕ → ℕ → List Leg
legs_from a i zero = []
legs_from a i (suc n) = get_or a i no_leg ∷ legs_from a (suc i) n

-- The whole route: the first `count` legs of the array. What stands behind them is not judged.
abbrev pub route_of : Packet → List Leg
route_of q = legs_from q.legs 0 q.count

-- The packet with another present node and mark.
abbrev pub put : Packet → ℕ → ℕ → Packet
put q n m = record { source = q.source; node = n; legs = q.legs; count = q.count; mark = m }

-- A packet by its fields.
unfoldable pub packet_with : ℕ → ℕ → List Leg → ℕ → ℕ → Packet
packet_with source node legs count mark = record { source = source; node = node; legs = legs; count = count; mark = mark }

-- Packet naming a node outside the shape, its source and travelled legs included, or with over three legs; or a mark further than just past the last leg.
-- `nodes`: how many nodes there are.
unfoldable pub outside : ℕ → List Leg → Bool
outside nodes [] = false
outside nodes (l ∷ ls) = leb nodes l.target || outside nodes ls

unfoldable pub bad_packet : Shape → Packet → Bool
bad_packet s q =
    ltb most_legs q.count
    || (ltb q.count q.mark || (leb (node_count s) q.source || (leb (node_count s) q.node || outside (node_count s) (route_of q))))

-- Step, walk and taking back check 5, 6, 14.
unfoldable pub packet_error : Shape → Packet → ℕ
packet_error s q = shape_error s then declined (bad_packet s q) wrong_packet then 0

abbrev pub kept : Shape → Marks Leg Packet
kept s = record { source = λ q. q.source; route = route_of; node = λ q. q.node; mark = λ q. q.mark; put = put; check = packet_error s }

abbrev pub stored : Shape → Packets Leg Packet
stored s = marked (torus s) (kept s)

-- No more legs than the array has.
abbrev pub WellStored : Packet → Type 0
WellStored q = q.count ≤ most_legs
