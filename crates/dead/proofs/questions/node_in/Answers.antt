use native.Mathlib.Omega.{arith}
use mathlib.Core.Path.{refl}
use borrow.Author.Rules.{rules}
use borrow.Author.Tests.{tests}
use Rattle.std.proofs.lemmas.Iterator.{YieldsList-from_range}
use Rattle.std.proofs.lemmas.Iterator.Search.{any_from_yields_List}
use Rattle.plan.specs.Layout.{fault_at}
use Rattle.dead.specs.Dead.{names_node, dead_node}
use Rattle.dead.proofs.Looking.{some_fault}
use Rattle.dead.proofs.questions.node_in.Goals as goal

pub returns : goal.returns
unfolding dead_node
returns c =
    some_fault (λ f. names_node f c.args.node) _ _ _
    (any_from_yields_List (λ k. names_node (fault_at c.args.sheet.now k) c.args.node) _ _ _ c.any.ensures.ran (YieldsList-from_range 0 _ c.count_in.result refl (omega arith)) (λ x b q k. search (rules, tests)))
    c.count_in.ensures
