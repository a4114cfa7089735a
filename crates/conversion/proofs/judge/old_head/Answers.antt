use Rattle.conversion.proofs.judge.old_head.Goals as goal

pub returns : goal.returns
returns c = rw (c.head_good.ensures, c.one_via.ensures)
