use Rattle.search.specs.BestVia.{within}
use Rattle.search.proofs.best.is_within.Goals as goal

pub returns : goal.returns
unfolding within
returns c = rw (c.both-2.ensures, c.both.ensures)
