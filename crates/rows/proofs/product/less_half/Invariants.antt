use Rattle.rows.proofs.Taking.{Halving}
use Rattle.rows.proofs.product.less_half.Given as goal

abbrev pub invariant-loop-k : goal.invariant-loop-k
invariant-loop-k l = Halving l.z l.first l.plane l.initial.rows l.rows l.k
