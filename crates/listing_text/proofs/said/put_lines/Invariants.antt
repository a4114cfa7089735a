use Rattle.listing_text.proofs.Lines.{Writing}
use Rattle.listing_text.proofs.said.put_lines.Given as goal

abbrev pub invariant-loop-d : goal.invariant-loop-d
invariant-loop-d l = Writing l.initial.lent l.all l.outcomes l.lent l.d
