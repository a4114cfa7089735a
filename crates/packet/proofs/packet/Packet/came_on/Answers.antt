use Rattle.packet.proofs.LastHop.{came_is}
use Rattle.packet.proofs.packet.Packet.came_on.Goals as goal

pub returns : goal.returns
returns c = came_is _ _ _ _ _ _ _ _ _ _ c.requires.0 c.requires.1 c.leg-leg.ensures c.begin.ensures c.coords_of-start.ensures c.coords_of-to.ensures c.can_cross.ensures
