use Rattle.sheets.proofs.Tallies.{Counting}
use Rattle.sheets.proofs.tally.without_in.Given as goal

abbrev pub invariant-loop-i : goal.invariant-loop-i
invariant-loop-i l = Counting l.sheet l.i-end l.without l.i
