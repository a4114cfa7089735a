use Rattle.second_via.proofs.Sums.{no_sum, a_sum}
use Rattle.second_via.proofs.reach.sum.Goals as goal

pub returns-then-note-ge-UNCLEAR : goal.returns-then-note-ge-UNCLEAR
returns-then-note-ge-UNCLEAR c = no_sum _ _ _ c.if-note-ge-UNCLEAR.true

pub returns : goal.returns
returns c = a_sum _ _ _ _ c.if-note-ge-UNCLEAR.false c.det_at.ensures.0
