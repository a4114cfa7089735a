use native.Mathlib.Omega.{arith}
use mathlib.Core.Path.{◌∙◌}
use Rattle.shape.specs.declared.shape.Dim.TheVariants.{X, Y, Z}
use Rattle.shape.proofs.Shapes.{sound}
use Rattle.second_via.proofs.Going.{seek_turn, seek_end}
use Rattle.second_via.proofs.Keys.{first_is, row_at}
use Rattle.second_via.proofs.least.plane.Goals as goal

pub below-y-items-requires : goal.below-y-items-requires
below-y-items-requires c = (sound _ c.requires.0 Y).high

pub bounds-from-r : goal.bounds-from-r
bounds-from-r c = omega (arith, c.in-Some.ensures.steps.2.1, c.loop-y.invariant.1, c.requires.2, (sound _ c.requires.0 Y).high, (sound _ c.requires.0 Z).high)

pub bounds-to-at : goal.bounds-to-at
bounds-to-at c = omega (arith, c.in-Some.ensures.steps.2.1, c.loop-y.invariant.1, c.requires.1, c.requires.2, (sound _ c.requires.0 Y).high, (sound _ c.requires.0 Z).high)

pub row-best-requires : goal.row-best-requires
row-best-requires c = ((sound _ c.requires.0 X).high, (first_is _ c.requires.0 _ _ _ (rw c.loop-y.invariant.1 at c.in-Some.ensures.steps.2.1) c.requires.2 c.number_at-first.ensures).fits)

pub loop-y-preserved : goal.loop-y-preserved
loop-y-preserved c =
    let i = c.loop-y.invariant in
    let s = c.in-Some.ensures.steps in
    (s.0 ∙ i.0, s.1 ∙ i.1, seek_turn _ _ _ _ _ _ _ _ _ (sound _ c.requires.0 Y).high i.2 (rw (i.0, i.1) at s.2) (row_at _ _ _ _ _ _ _ (first_is _ c.requires.0 _ _ _ (rw i.1 at s.2.1) c.requires.2 c.number_at-first.ensures).is c.row-best.ensures))

pub returns : goal.returns
returns c = let i = c.loop-y.invariant in seek_end _ _ _ _ _ _ (rw i.1 at c.in-None.ensures.steps.2) i.2
