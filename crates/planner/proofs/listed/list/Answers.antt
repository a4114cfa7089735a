use Rattle.planner.proofs.Writing.{ok, begun, is_at, roomy, places, after, turn, few, done}
use Rattle.planner.proofs.Standing.{starts}
use mathlib.Core.Path.{refl}
use native.Mathlib.Omega.{arith}
use Rattle.planner.proofs.listed.list.Goals as goal

pub next_outside-at-requires : goal.next_outside-at-requires
next_outside-at-requires c = let g = c.args.source.now.ready in record { shape_value = ok g; stands = starts _ (ok g) }

pub loop-at-init : goal.loop-at-init
loop-at-init c = (begun c.args.source.now.ready _ c.requires.most_bytes_in_bounds _ c.next_outside-at.ensures, refl)

pub invariant_of-target : goal.invariant_of-target
invariant_of-target c = record { node_at = is_at c.args.source.now.ready _ _ _ c.loop-at.invariant.0 c.loop-at-test.true _ refl }

pub overflow_add-listed : goal.overflow_add-listed
overflow_add-listed c = let inv = c.loop-at.invariant.0 in omega (arith, roomy c.args.source.now.ready _ _ _ inv c.loop-at-test.true)

pub overflow_add-behind : goal.overflow_add-behind
overflow_add-behind c = let inv = c.loop-at.invariant.0 in omega (arith, (places c.args.source.now.ready _ _ _ inv c.loop-at-test.true).1)

pub overflow_add-behind-in-loop-at : goal.overflow_add-behind-in-loop-at
overflow_add-behind-in-loop-at c = let inv = c.loop-at.invariant.0 in omega (arith, (places c.args.source.now.ready _ _ _ inv c.loop-at-test.true).0)

pub next_outside-at-requires-in-loop-at : goal.next_outside-at-requires-in-loop-at
next_outside-at-requires-in-loop-at c = let g = c.args.source.now.ready in record { shape_value = ok g; stands = after g _ _ _ c.loop-at.invariant.0 c.loop-at-test.true }

pub loop-at-smaller : goal.loop-at-smaller
loop-at-smaller c = let inv = c.loop-at.invariant.0 in omega (arith, (places c.args.source.now.ready _ _ _ inv c.loop-at-test.true).1, c.next_outside-at-in-loop-at.ensures.onward)

pub loop-at-preserved : goal.loop-at-preserved
loop-at-preserved c = let both = c.loop-at.invariant in
    (turn c.args.source.now.ready _ _ _ both.0 c.loop-at-test.true _ _ _ _ (λ w. c.outcome_to-outcome.ensures w (c.requires.noted w).0 (c.requires.noted w).1) c.entry_for.ensures c.set_entry.ensures c.next_outside-at-in-loop-at.ensures, omega (arith, both.1))

pub overflow_cast-result : goal.overflow_cast-result
overflow_cast-result c = let inv = c.loop-at.invariant.0 in omega (arith, few c.args.source.now.ready _ _ _ inv)

pub shape_of-bytes : goal.shape_of-bytes
shape_of-bytes c = c.loop-at.invariant.1

pub returns : goal.returns
returns c = done c.args.source.now.ready _ _ _ c.loop-at.invariant.0 c.loop-at-test.false
