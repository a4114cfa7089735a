use Rattle.machine.proofs.hop.hops_along.Goals as goal

pub returns-clause-value : goal.returns-clause-value
returns-clause-value c = rw (c.hops.ensures, c.coord-2.ensures, c.coord.ensures, c.axis.ensures)
