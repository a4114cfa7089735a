use Rattle.conversion.proofs.judge.old_entry.Goals as goal

pub returns : goal.returns
returns c = rw (c.entry_by.ensures, c.one_via.ensures)
