use Rattle.dead.specs.Steps.{mark_node}
use mathlib.Core.Path.{sym, ◌∙◌}
use Rattle.dead.proofs.nodes.mark_node.Goals as goal

pub returns-then-is_node : goal.returns-then-is_node
unfolding mark_node
returns-then-is_node c = rw (sym c.is_node.ensures ∙ c.if-is_node.true)

pub returns-else-is_node : goal.returns-else-is_node
unfolding mark_node
returns-else-is_node c = rw (sym c.is_node.ensures ∙ c.if-is_node.false)
