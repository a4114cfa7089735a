use Rattle.masks.proofs.Columns.{links_is}
use Rattle.masks.proofs.mask.Fan.links_row.Goals as goal

pub returns : goal.returns
returns c = links_is _ _ _ _ _ _ _ _ _ c.next_place.ensures c.link_row-leaves.ensures c.link_row-comes.ensures
