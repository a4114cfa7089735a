use Rattle.masks.specs.End.{begins}
use Rattle.masks.specs.Masks.{end_at}
use Rattle.masks.proofs.Tables.{Blocks}
use Rattle.masks.proofs.table.ends.Given as goal

abbrev pub invariant-loop-k : goal.invariant-loop-k
invariant-loop-k l = Blocks (end_at l.mode (begins l.end) l.shape l.at) 3 l.masks l.k
