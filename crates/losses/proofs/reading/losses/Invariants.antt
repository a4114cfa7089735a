use Rattle.losses.proofs.Filling.{Filling}
use Rattle.losses.proofs.reading.losses.Given as goal

abbrev pub invariant-loop-i : goal.invariant-loop-i
invariant-loop-i l = Filling l.sheet l.shape l.count l.words l.i
