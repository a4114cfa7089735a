use mathlib.Core.Path.{◌∙◌}
use Rattle.shape.specs.declared.shape.Dim.TheVariants.{Z}
use Rattle.shape.proofs.Shapes.{sound}
use Rattle.second_via.proofs.Going.{seek_turn, seek_end}
use Rattle.second_via.proofs.least.space.Goals as goal

pub below-z-items-requires : goal.below-z-items-requires
below-z-items-requires c = (sound _ c.requires.0 Z).high

pub loop-z-preserved : goal.loop-z-preserved
loop-z-preserved c =
    let i = c.loop-z.invariant in
    let s = c.in-Some.ensures.steps in
    (s.0 ∙ i.0, s.1 ∙ i.1, seek_turn _ _ _ _ _ _ _ _ _ (sound _ c.requires.0 Z).high i.2 (rw (i.0, i.1) at s.2) c.plane-best.ensures)

pub returns : goal.returns
returns c = let i = c.loop-z.invariant in seek_end _ _ _ _ _ _ (rw i.1 at c.in-None.ensures.steps.2) i.2
