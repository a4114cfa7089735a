use Rattle.rows.specs.Planes.{kept_row}
use Rattle.rows.proofs.Taking.{Filled}
use Rattle.rows.proofs.product.plane.Given as goal

abbrev pub invariant-loop-j : goal.invariant-loop-j
invariant-loop-j l = Filled (kept_row l.x l.y) 16 l.rows l.j
