use Rattle.std.proofs.Common.{length}
use Rattle.sheets.proofs.Walking.{Walking}
use Rattle.sheets.proofs.tally.Tally.add_run.Given as goal

abbrev pub invariant-loop-rest : goal.invariant-loop-rest
invariant-loop-rest l = Walking l.run l.initial.sum l.sum l.rest

abbrev pub decreases-loop-rest : goal.decreases-loop-rest
decreases-loop-rest l = length l.rest
