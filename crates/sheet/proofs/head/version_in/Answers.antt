use Rattle.sheet.specs.Head.{version}
use Rattle.sheet.proofs.head.version_in.Goals as goal

pub returns : goal.returns
unfolding version
returns c = c.byte_at.ensures
