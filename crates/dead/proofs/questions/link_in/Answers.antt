use native.Mathlib.Omega.{arith}
use mathlib.Core.Path.{refl}
use borrow.Author.Rules.{rules}
use borrow.Author.Tests.{tests}
use Rattle.std.proofs.lemmas.Iterator.{YieldsList-from_range}
use Rattle.std.proofs.lemmas.Iterator.Search.{any_from_yields_List}
use Rattle.plan.specs.Layout.{fault_at}
use Rattle.dead.specs.Dead.{names}
use Rattle.dead.specs.Steps.{any_names}
use Rattle.dead.proofs.Looking.{some_fault}
use Rattle.dead.proofs.questions.link_in.Goals as goal

pub returns : goal.returns
unfolding any_names
returns c =
    some_fault (λ f. names f c.args.node c.args.dir c.args.to) _ _ _
    (any_from_yields_List (λ k. names (fault_at c.args.sheet.now k) c.args.node c.args.dir c.args.to) _ _ _ c.any.ensures.ran (YieldsList-from_range 0 _ c.count_in.result refl (omega arith)) (λ x b q k. search (rules, tests)))
    c.count_in.ensures
