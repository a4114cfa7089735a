use Rattle.std.proofs.Common.{rules}
use Rattle.packet.proofs.Drops.{ends_front}
use Rattle.packet.proofs.packet.Packet.ends_here.Goals as goal

pub returns : goal.returns
returns c = ends_front _ _ _ c.front.ensures (search rules)
