use lib.ListN.{take}
use Rattle.listing_text.specs.Steps.{Wrote}
use Rattle.listing_text.proofs.lent.Lent.text.Given as goal

abbrev pub invariant-loop-b : goal.invariant-loop-b
invariant-loop-b l = Wrote l.initial.self l.self (take l.b-index l.s)
