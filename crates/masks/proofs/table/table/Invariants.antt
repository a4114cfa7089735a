use Rattle.masks.specs.End.{begins}
use Rattle.masks.specs.Masks.{mask_at}
use Rattle.masks.proofs.Tables.{Blocks}
use Rattle.masks.proofs.table.table.Given as goal

abbrev pub invariant-loop-k : goal.invariant-loop-k
invariant-loop-k l = Blocks (mask_at l.mode (begins l.end) l.shape) 48 l.table l.k
