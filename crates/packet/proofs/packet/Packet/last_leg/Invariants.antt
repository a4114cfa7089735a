use Rattle.packet.proofs.LastHop.{Down}
use Rattle.packet.proofs.packet.Packet.last_leg.Given as goal

abbrev pub invariant-loop-i : goal.invariant-loop-i
invariant-loop-i l = Down l.self l.i
