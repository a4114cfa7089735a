use Rattle.routes.proofs.checks.Origin.two_good.Goals as goal

pub returns : goal.returns
returns c = rw (c.both.ensures, c.is_via-2.ensures, c.both-second.ensures, c.is_via.ensures)
