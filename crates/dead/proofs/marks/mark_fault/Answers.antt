use native.Mathlib.Omega.{arith}
use mathlib.Core.Path.{sym, ◌∙◌}
use Rattle.dead.proofs.Answers.{exists_node, whole_node, one_link}
use Rattle.dead.proofs.marks.mark_fault.Goals as goal

pub mark_links-requires : goal.mark_links-requires
mark_links-requires c = (exists_node _ _ c.requires, omega arith, omega arith)

pub mark_links-requires-else-is_node : goal.mark_links-requires-else-is_node
mark_links-requires-else-is_node c = (exists_node _ _ c.requires, omega arith, omega arith)

pub returns-then-is_node : goal.returns-then-is_node
returns-then-is_node c = whole_node _ _ _ _ (sym c.is_node.ensures ∙ c.if-is_node.true) c.mark_links.ensures

pub returns-else-is_node : goal.returns-else-is_node
returns-else-is_node c = one_link _ _ _ _ _ (sym c.is_node.ensures ∙ c.if-is_node.false) c.dir-dir.ensures.value c.mark_links-else-is_node.ensures
