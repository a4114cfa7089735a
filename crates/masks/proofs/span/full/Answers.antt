use Rattle.masks.proofs.Spans.{full_is, full_none}
use Rattle.masks.proofs.span.full.Goals as goal

-- src/span.rt:25:1
pub returns-then-len-le16 : goal.returns-then-len-le16
returns-then-len-le16 c = full_is _ _ c.if-len-le16.true c.ones.ensures.0

-- src/span.rt:25:1
pub returns-else-len-le16 : goal.returns-else-len-le16
returns-else-len-le16 c = full_none _ c.if-len-le16.false
