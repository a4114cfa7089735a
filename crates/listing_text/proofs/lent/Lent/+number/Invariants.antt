use Rattle.listing_text.proofs.lent.Lent.+number.Given as goal

abbrev pub decreases-number : goal.decreases-number
decreases-number l = l.n
