use Rattle.masks.proofs.Columns.{no_other, other_is}
use Rattle.masks.proofs.mask.Fan.other_row.Goals as goal

pub returns-then-self-c : goal.returns-then-self-c
returns-then-self-c c = no_other _ _ c.if-self-c.true

pub returns : goal.returns
returns c = other_is _ _ _ c.args.self.now.few c.if-self-c.false c.range.ensures
