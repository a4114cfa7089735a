use mathlib.Core.Path.{refl}
use Rattle.packet.proofs.Drops.{fine_settled}
use Rattle.packet.proofs.Courses.{of_course}
use Rattle.packet.proofs.course.Course.of.Goals as goal

pub front_or-front-requires : goal.front_or-front-requires
front_or-front-requires c = rw c.drop_all-ready.ensures (fine_settled _ _ c.requires).few

pub returns : goal.returns
returns c = let e = c.drop_all-ready.ensures in rw (← e) (of_course _ c.drop_all-ready.result (rw e (fine_settled _ _ c.requires)) _ _ _ _ _ _ c.front_or-front.ensures refl c.coords_of-at.ensures c.coords_of-to.ensures c.hops_at.ensures c.ways-ways.ensures)
