use mathlib.Core.Path.{refl}
use native.Mathlib.Omega.{arith}
use Rattle.planner.proofs.EachOutcome.{sound_shape, begun, is_at, place, turn, done}
use Rattle.planner.proofs.outcomes.all_outcomes.Goals as goal

pub loop-at-init : goal.loop-at-init
loop-at-init c = begun c.args.source.now.ready

pub invariant_of-target : goal.invariant_of-target
invariant_of-target c = record { node_at = is_at c.args.source.now.ready _ _ c.loop-at.invariant c.loop-at-test.true _ refl }

pub overflow_cast-i : goal.overflow_cast-i
overflow_cast-i c = omega (arith, place c.args.source.now.ready _ _ c.loop-at.invariant c.loop-at-test.true)

pub offset_bounds-outcomes-i : goal.offset_bounds-outcomes-i
offset_bounds-outcomes-i c = omega (arith, place c.args.source.now.ready _ _ c.loop-at.invariant c.loop-at-test.true)

pub bounds-outcomes-i : goal.bounds-outcomes-i
bounds-outcomes-i c = place c.args.source.now.ready _ _ c.loop-at.invariant c.loop-at-test.true

pub following-at-requires : goal.following-at-requires
following-at-requires c = let inv = c.loop-at.invariant in record { shape_value = sound_shape c.args.source.now.ready; stands = inv.stands; x_lt_x = (inv.inside c.loop-at-test.true, c.loop-at-test.true) }

pub loop-at-smaller : goal.loop-at-smaller
loop-at-smaller c = omega (arith, place c.args.source.now.ready _ _ c.loop-at.invariant c.loop-at-test.true, c.following-at.ensures.node)

pub loop-at-preserved : goal.loop-at-preserved
loop-at-preserved c = turn c.args.source.now.ready _ _ c.loop-at.invariant c.loop-at-test.true _ _ (c.outcome_to.ensures c.requires.work c.requires.noted.0 c.requires.noted.1) c.following-at.ensures

pub returns : goal.returns
returns c = done c.args.source.now.ready _ _ c.loop-at.invariant c.loop-at-test.false
