use Rattle.masks.proofs.Arcs.{hops_up, hops_round}
use Rattle.masks.proofs.range.hops.Goals as goal

-- src/range.rt:39:1
pub returns-then-p-q : goal.returns-then-p-q
returns-then-p-q c = hops_up _ _ _ c.if-p-q.true c.requires.1

-- src/range.rt:39:1
pub returns-else-p-q : goal.returns-else-p-q
returns-else-p-q c = hops_round _ _ _ c.if-p-q.false c.requires.0
