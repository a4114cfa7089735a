-- The code's own steps: what a walk carries along a leg.
use Rattle.std.specs.Prelude.{ℕ, ◌%◌, ◌≡◌, cond, List, eqb}
use Rattle.shape.specs.declared.shape.Shape.{Shape}
use Rattle.machine.specs.Number.{number_of, coords_of}
use Rattle.machine.specs.Hop.{hops, rule}
use Rattle.machine.specs.Ways.{ways_at, standing_at}
use Rattle.packet.specs.declared.packet.Packet.{Packet}
use Rattle.packet.specs.declared.course.Course.{Course}
use Rattle.packet.specs.declared.course.Start.{Start}
use Rattle.packet.specs.declared.stepper.Ending.{Ending}
use Rattle.packet.specs.declared.stepper.Walked.{Walked}
use Rattle.packet.specs.Packet.{put}
use Rattle.packet.specs.Steps.{front_or, Fine}

abbrev pub course_in : Start → Course
course_in r = record { mark = r.mark; mode = r.mode; hops = r.hops; to = record { x = r.x; y = r.y; z = r.z } }

-- The course of a packet, and the hops left in each direction.
unfoldable pub course_of : Shape → Packet → Course
course_of s q = record {
  mark = q.mark;
  mode = (front_or q).mode;
  hops = hops s q.node (front_or q).target;
  to = coords_of s (front_or q).target;
}

unfoldable pub ways_of : Shape → Packet → List ℕ
ways_of s q = ways_at rule (front_or q).mode s (coords_of s q.node) (coords_of s (front_or q).target)

-- The packet of a course, of which the packet that was lent tells the rest; and at the end of its leg.
unfoldable pub packet_of : Shape → Packet → Course → List ℕ → Packet
packet_of s lent c ws = put lent (number_of s (standing_at s ws c.to) % 65536) c.mark

unfoldable pub end_of : Shape → Packet → Course → Packet
end_of s lent c = put lent (number_of s c.to % 65536) c.mark

-- The course and the hops left are those of a packet that no check declines.
pub record On (s : Shape) (q : Packet) (c : Course) (ws : List ℕ) : Type 0 where
  pub fine : Fine s q
  pub course : c ≡ course_of s q
  pub ways : ws ≡ ways_of s q

-- The packet of a walk after some hops: as it was lent, drops not stored, while there are none.
unfoldable pub kept_of : Packet → ℕ → Packet → Packet
kept_of lent hops q = cond (eqb hops 0) lent q

abbrev pub walked : Packet → ℕ → Ending → Walked
walked q k e = record { packet = q; hops = k; ending = e }
