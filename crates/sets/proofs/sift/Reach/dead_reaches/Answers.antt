use Rattle.sets.specs.Sift.{dead_reaches}
use Rattle.sets.proofs.sift.Reach.dead_reaches.Goals as goal

pub returns : goal.returns
unfolding dead_reaches
returns c = rw (c.either-2.ensures, c.either.ensures, c.part_reaches-z.ensures, c.part_reaches-y.ensures, c.part_reaches-x.ensures)
