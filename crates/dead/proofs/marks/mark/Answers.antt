use Rattle.dead.specs.Steps.{mark_bit}
use Rattle.dead.proofs.marks.mark.Goals as goal

pub returns : goal.returns
unfolding mark_bit
returns c = rw c.with_bit.ensures
