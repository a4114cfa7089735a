use Rattle.legs.specs.Between.{runs}
use Rattle.sets.proofs.cells.Run.runs.Goals as goal

pub returns : goal.returns
unfolding runs
returns c = rw (c.both.ensures, c.agree.ensures, c.goes_plus.ensures, c.crosses.ensures)
