use Rattle.masks.proofs.Spans.{open_up, open_down}
use Rattle.masks.proofs.span.open_span.Goals as goal

-- src/span.rt:42:1
pub returns-then-p-q : goal.returns-then-p-q
returns-then-p-q c = open_up _ _ _ _ c.requires.0 c.if-p-q.true c.requires.2 c.range.ensures

-- src/span.rt:42:1
pub returns-else-p-q : goal.returns-else-p-q
returns-else-p-q c = open_down _ _ _ _ c.requires.0 c.if-p-q.false c.requires.1 c.range-else-p-q.ensures
