use Rattle.dead.proofs.Answers.{other_below, marked, unmarked}
use Rattle.dead.proofs.Table.{node_below}
use Rattle.machine.proofs.Nodes.{node_of}
use Rattle.dead.proofs.marks.mark_link.Goals as goal

pub mark-requires : goal.mark-requires
mark-requires c = (node_below _ _ (node_of _ _ c.requires.0), c.requires.1)

pub mark-requires-then-has_link : goal.mark-requires-then-has_link
mark-requires-then-has_link c = other_below _ _ _ c.requires.0 _ _ c.neighbour.ensures c.opposite.ensures c.requires.1

pub returns-then-has_link : goal.returns-then-has_link
returns-then-has_link c = marked _ _ _ c.requires.0 _ _ c.neighbour.ensures c.opposite.ensures _ _ _ c.mark.ensures c.mark-then-has_link.ensures _ c.has_link.ensures c.if-has_link.true

pub returns-else-has_link : goal.returns-else-has_link
returns-else-has_link c = unmarked _ _ _ c.requires.0 _ _ c.has_link.ensures c.if-has_link.false
