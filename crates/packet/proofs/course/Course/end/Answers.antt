use Rattle.packet.specs.Course.{end_of}
use Rattle.packet.proofs.course.Course.end.Goals as goal

pub returns : goal.returns
unfolding end_of
returns c = rw (c.put.ensures, c.number_at.ensures)
