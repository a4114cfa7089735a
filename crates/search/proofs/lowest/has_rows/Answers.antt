use Rattle.search.proofs.Clip.{rows_short, rows_left}
use Rattle.search.proofs.lowest.has_rows.Goals as goal

pub returns-then-len-need : goal.returns-then-len-need
returns-then-len-need c = rows_short _ _ _ c.if-len-need.true

pub returns : goal.returns
returns c = rows_left _ _ _ c.if-len-need.false
