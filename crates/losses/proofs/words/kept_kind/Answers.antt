use native.Mathlib.Omega.{arith}
use mathlib.Core.Path.{sym, ◌∙◌}
use Rattle.losses.specs.OfPlan.{kept_kind}
use Rattle.losses.proofs.words.kept_kind.Goals as goal

pub returns-then-is_node : goal.returns-then-is_node
unfolding kept_kind
returns-then-is_node c = (rw (sym c.is_node.ensures ∙ c.if-is_node.true), omega arith)

pub returns-else-is_node : goal.returns-else-is_node
unfolding kept_kind
returns-else-is_node c = (rw (sym c.is_node.ensures ∙ c.if-is_node.false, c.dir.ensures.value), omega (arith, c.dir.ensures.upper_bound))
