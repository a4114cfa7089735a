use Rattle.sets.proofs.Taking.{dead_is}
use Rattle.sets.proofs.clear.Within.less_dead.Goals as goal

pub returns : goal.returns
returns c = dead_is _ _ _ _ _ _ _ _ _ c.less_part.ensures c.less_part-2.ensures c.less_part-3.ensures
