use Rattle.sets.specs.Sift.{part_reaches}
use Rattle.sets.proofs.sift.Reach.part_reaches.Goals as goal

pub returns : goal.returns
unfolding part_reaches
returns c = rw (c.both.ensures, c.mask_in-2.ensures, c.mask_in.ensures)
