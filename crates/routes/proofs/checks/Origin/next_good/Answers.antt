use Rattle.routes.specs.Checks.{next_good}
use Rattle.routes.proofs.checks.Origin.next_good.Goals as goal

pub returns : goal.returns
unfolding next_good
returns c = rw (c.both.ensures, c.entry_good.ensures)
