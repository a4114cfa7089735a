use Rattle.masks.specs.Masks.{gather_at}
use Rattle.masks.proofs.Tables.{Blocks}
use Rattle.masks.proofs.table.gather.Given as goal

abbrev pub invariant-loop-k : goal.invariant-loop-k
invariant-loop-k l = Blocks (gather_at l.table l.at) 3 l.masks l.k
