use Prim.Native.Nat.{◌*◌}
use Rattle.search.specs.PartOf.{part_of}
use Rattle.search.proofs.Scatter.{Filled}
use Rattle.search.proofs.along.parts_along.Given as goal

abbrev pub invariant-loop-c : goal.invariant-loop-c
invariant-loop-c l = Filled (λ i. l.weight * part_of l.axis.len l.axis.ring l.p l.q i) l.ys l.c
