use Rattle.packet.specs.Course.{packet_of}
use Rattle.packet.proofs.course.Course.packet.Goals as goal

pub returns : goal.returns
unfolding packet_of
returns c = rw (c.put.ensures, c.number_at.ensures, c.standing.ensures)
