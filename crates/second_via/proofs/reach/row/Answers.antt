use mathlib.Core.Path.{◌∙◌}
use Rattle.second_via.proofs.Storing.{stored_one, store_turn, store_end}
use Rattle.second_via.proofs.reach.row.Goals as goal

pub loop-x-preserved : goal.loop-x-preserved
loop-x-preserved c =
    let i = c.loop-x.invariant in
    let s = c.in-Some.ensures.steps in
    (s.0 ∙ i.0, s.1 ∙ i.1, store_turn _ _ _ _ _ _ _ _ _ c.requires.0 i.2 (rw (i.0, i.1) at s.2) (stored_one _ _ _ _ _ _ c.sum.ensures))

pub returns : goal.returns
returns c = let i = c.loop-x.invariant in store_end _ _ _ _ _ _ (rw i.1 at c.in-None.ensures.steps.2) i.2
