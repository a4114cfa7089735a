use Rattle.rows.proofs.Taking.{Keeping}
use Rattle.rows.proofs.product.keep.Given as goal

abbrev pub invariant-loop-j : goal.invariant-loop-j
invariant-loop-j l = Keeping l.plane l.k l.initial.rows l.rows l.j
