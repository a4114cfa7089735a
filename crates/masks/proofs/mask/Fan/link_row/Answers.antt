use Rattle.masks.proofs.Columns.{no_link, link_is}
use Rattle.masks.proofs.mask.Fan.link_row.Goals as goal

pub returns-then-self-c : goal.returns-then-self-c
returns-then-self-c c = no_link _ _ _ _ _ _ c.if-self-c.true

pub returns : goal.returns
returns c = link_is _ _ _ _ _ _ _ _ _ c.if-self-c.false c.next_place.ensures c.takes_row-plus.ensures c.takes_row-minus.ensures
