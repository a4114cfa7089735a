use Rattle.machine.proofs.hop.toward_at.Goals as goal

pub returns : goal.returns
returns c = rw (c.dir_of.ensures, c.goes_plus-plus.ensures, c.coord-2.ensures, c.coord.ensures, c.axis.ensures)
