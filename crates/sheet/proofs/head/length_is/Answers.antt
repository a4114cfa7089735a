use Rattle.sheet.specs.Head.{length_is}
use Rattle.sheet.proofs.head.length_is.Goals as goal

pub returns : goal.returns
unfolding length_is
returns c = rw (c.both.ensures, c.bytes_after.ensures, c.length_in-field.ensures)
