use Rattle.masks.proofs.Columns.{own_is}
use Rattle.masks.proofs.mask.Fan.own_row.Goals as goal

pub returns : goal.returns
returns c = own_is _ c.args.c c.args.self.now.at _ _ c.ones.ensures.0 c.pick.ensures
