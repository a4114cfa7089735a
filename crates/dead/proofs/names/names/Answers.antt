use Rattle.dead.specs.Dead.{names}
use Rattle.dead.proofs.names.names.Goals as goal

pub returns : goal.returns
unfolding names
returns c = rw (c.either.ensures, c.names_link.ensures, c.either-end.ensures, c.names_node-2.ensures, c.names_node.ensures)
