use Rattle.masks.proofs.Tables.{Laid}
use Rattle.masks.proofs.table.lay.Given as goal

abbrev pub invariant-loop-j : goal.invariant-loop-j
invariant-loop-j l = Laid l.k l.block l.initial.masks l.masks l.j
