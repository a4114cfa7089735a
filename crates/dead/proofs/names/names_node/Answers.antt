use Rattle.dead.specs.Dead.{names_node}
use Rattle.dead.proofs.names.names_node.Goals as goal

pub returns : goal.returns
unfolding names_node
returns c = rw (c.both.ensures, c.is_node.ensures)
