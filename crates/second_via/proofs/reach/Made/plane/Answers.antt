use mathlib.Core.Path.{◌∙◌}
use Rattle.shape.specs.declared.shape.Dim.TheVariants.{Y}
use Rattle.shape.proofs.Shapes.{sound}
use Rattle.second_via.proofs.Storing.{store_turn, store_end}
use Rattle.second_via.proofs.reach.Made.plane.Goals as goal

pub below-y-items-requires : goal.below-y-items-requires
below-y-items-requires c = (sound _ c.args.self.now.sound Y).high

pub loop-y-preserved : goal.loop-y-preserved
loop-y-preserved c =
    let i = c.loop-y.invariant in
    let s = c.in-Some.ensures.steps in
    (s.0 ∙ i.0, s.1 ∙ i.1, store_turn _ _ _ _ _ _ _ _ _ (sound _ c.args.self.now.sound Y).high i.2 (rw (i.0, i.1) at s.2) c.row.ensures)

pub returns : goal.returns
returns c = let i = c.loop-y.invariant in store_end _ _ _ _ _ _ (rw i.1 at c.in-None.ensures.steps.2) i.2
