use Rattle.routes.specs.Checks.{head_good}
use Rattle.routes.proofs.checks.head_good.Goals as goal

pub returns : goal.returns
unfolding head_good
returns c = rw (c.both.ensures, c.length_is.ensures, c.size_after.ensures, c.count_in.ensures, c.both-known.ensures, c.version_in.ensures)
