use Rattle.masks.proofs.Columns.{no_between}
use Rattle.masks.proofs.mask.Fan.passes_row.Goals as goal

pub returns-then-self-c : goal.returns-then-self-c
returns-then-self-c c = no_between _ _ _ _ c.if-self-c.true
