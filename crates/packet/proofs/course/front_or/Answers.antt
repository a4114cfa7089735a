use Rattle.packet.proofs.Courses.{front_unwrap}
use Rattle.packet.proofs.course.front_or.Goals as goal

pub returns : goal.returns
returns c = rw (c.unwrap_or.ensures, c.front.ensures) (front_unwrap _)
