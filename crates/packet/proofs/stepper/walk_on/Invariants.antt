use Rattle.packet.proofs.Walks.{Carried}
use Rattle.packet.proofs.stepper.walk_on.Given as goal

abbrev pub invariant-loop-hops : goal.invariant-loop-hops
invariant-loop-hops l = Carried l.shape l.dirs l.lent l.way l.ways l.hops
