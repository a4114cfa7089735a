use Rattle.legs.specs.Between.{crosses}
use Rattle.sets.proofs.cells.Run.crosses.Goals as goal

pub returns : goal.returns
unfolding crosses
returns c = rw (c.both.ensures, c.useful.ensures, c.between.ensures)
