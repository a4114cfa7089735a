use mathlib.Core.Path.{sym, ◌∙◌}
use borrow.Author.Tests.{eqb-false}
use Rattle.planner.proofs.Destination.{far_lost, far_sets}
use Rattle.planner.proofs.dest.far_to.Goals as goal

pub returns-then-is_empty : goal.returns-then-is_empty
returns-then-is_empty c = λ sets noted blocked. let k = c.args.target.now in let source = k.source.now in c.far_by_losses.ensures _ _ _ (far_lost source.ready k.node_at source.known.weighed c.requires.direct c.ends-ends.ensures blocked _ _ c.requires.own noted)

pub returns : goal.returns
returns c = λ sets noted blocked. let k = c.args.target.now in let source = k.source.now in c.far_by_sets.ensures _ _ (far_sets source.ready k.node_at source.known.weighed c.requires.direct c.ends-ends.ensures blocked _ _ c.requires.own noted sets (eqb-false _ 0 (sym c.is_empty.ensures ∙ c.if-is_empty.false)))
