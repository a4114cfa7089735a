use Rattle.legs.specs.Between.{between}
use Rattle.sets.proofs.cells.Run.between.Goals as goal

pub returns : goal.returns
unfolding between
returns c = rw (c.both.ensures, c.hops-whole.ensures, c.hops-last.ensures, c.hops-first.ensures)
