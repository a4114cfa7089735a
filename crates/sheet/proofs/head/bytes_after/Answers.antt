use Rattle.sheet.specs.Head.{bytes_after}
use Rattle.sheet.proofs.head.bytes_after.Goals as goal

pub returns : goal.returns
unfolding bytes_after
returns c = c.saturating_sub.ensures
