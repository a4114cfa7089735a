use Rattle.packet.proofs.LastHop.{begin_first, begin_next}
use Rattle.packet.proofs.packet.Packet.begin.Goals as goal

pub returns-then-i-eq0 : goal.returns-then-i-eq0
returns-then-i-eq0 c = begin_first c.args.self _ c.if-i-eq0.true

pub returns : goal.returns
returns c = begin_next c.args.self _ _ c.if-i-eq0.false c.requires.0 c.leg.ensures
