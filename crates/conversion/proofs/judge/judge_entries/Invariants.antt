use Rattle.conversion.proofs.Losing.{Losing}
use Rattle.conversion.proofs.judge.judge_entries.Given as goal

abbrev pub invariant-loop-i : goal.invariant-loop-i
invariant-loop-i l = Losing l.sheet l.shape l.source l.i-end l.least l.lost l.i
