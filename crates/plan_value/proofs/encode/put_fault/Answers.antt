use Rattle.plan_value.proofs.encode.put_fault.Goals as goal

pub returns : goal.returns
returns c = rw (c.lower.ensures, c.upper.ensures)
