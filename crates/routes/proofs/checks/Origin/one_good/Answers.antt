use Rattle.routes.proofs.checks.Origin.one_good.Goals as goal

pub returns : goal.returns
returns c = rw (c.both.ensures, c.is_via.ensures)
