use Rattle.search.specs.PartOf.{part_of}
use Rattle.search.proofs.Scatter.{Scatter}
use Rattle.search.proofs.parts.levels.Given as goal

abbrev pub invariant-loop-x : goal.invariant-loop-x
invariant-loop-x l = Scatter (λ c. part_of l.axis.len l.axis.ring l.p l.q c) l.xs l.bit l.x
