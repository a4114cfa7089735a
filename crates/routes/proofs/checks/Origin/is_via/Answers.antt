use Rattle.routes.specs.Checks.{is_via}
use Rattle.routes.proofs.checks.Origin.is_via.Goals as goal

pub returns : goal.returns
unfolding is_via
returns c = rw (c.both-2.ensures, c.both.ensures, c.is_node.ensures)
