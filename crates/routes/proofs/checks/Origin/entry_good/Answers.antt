use Rattle.routes.specs.Checks.{entry_good}
use Rattle.routes.proofs.checks.Origin.entry_good.Goals as goal

pub returns : goal.returns
unfolding entry_good
returns c = rw (c.both.ensures, c.via_good.ensures, c.both-dest.ensures, c.is_node.ensures)
