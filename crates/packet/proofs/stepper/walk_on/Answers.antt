use borrow.Author.Tests.{le-leb, lt-leb}
use native.Mathlib.Omega.{arith}
use mathlib.Core.Path.{◌≡◌, sym, ◌∙◌}
use lib.ListN.{length}
use Rattle.packet.proofs.Walks.{begin, has_arrived, used_up, tried_refused, one_hop, tried_stays, end_fine, tried_ends}
use Rattle.packet.proofs.stepper.walk_on.Goals as goal
use Rattle.packet.proofs.stepper.walk_on.Goals.{then-way-eq0, else-way-eq0}

pub of-start-requires : goal.of-start-requires
of-start-requires c = c.requires

pub loop-hops-init : goal.loop-hops-init
loop-hops-init c = begin _ _ c.requires _ _ (c.course-way.ensures ∙ c.of-start.ensures.0, c.of-start.ensures.1) _

pub returns-then-count-way : goal.returns-then-count-way
returns-then-count-way c = rw c.ended.ensures (has_arrived _ _ _ _ _ _ c.loop-hops.invariant (le-leb _ _ c.if-count-way.true))

pub returns-then-not-take : goal.returns-then-not-take
returns-then-not-take c = rw c.ended-then-not-take.ensures (tried_refused _ _ _ _ _ _ c.loop-hops.invariant c.loop-hops-test.true (lt-leb _ _ c.if-count-way.false) _ c.take.ensures.ways_after (sym c.take.ensures.value ∙ c.if-not-take.true))

pub overflow_sub-way : goal.overflow_sub-way
overflow_sub-way c = one_hop _ _ _ _ _ _ c.loop-hops.invariant c.loop-hops-test.true (lt-leb _ _ c.if-count-way.false) (sym c.take.ensures.value ∙ c.if-not-take.false)

pub of-next-requires : goal.of-next-requires
of-next-requires c = end_fine _ _ _ _ _ _ c.loop-hops.invariant c.loop-hops-test.true (lt-leb _ _ c.if-count-way.false) (sym c.take.ensures.value ∙ c.if-not-take.false) c.if-way-eq0.true _ c.end.ensures

pub loop-hops-preserved : goal.loop-hops-preserved
loop-hops-preserved c = elim c.if-way-eq0.branch [
  | then-way-eq0 w ↦ rw (w.way'-is, w.ways-is) (tried_ends _ _ _ _ _ _ c.loop-hops.invariant c.loop-hops-test.true (lt-leb _ _ c.if-count-way.false) (sym c.take.ensures.value ∙ c.if-not-take.false) w.if-way-eq0.true _ w.end.ensures _ _ (w.course-way-then-way-eq0.ensures ∙ w.of-next.ensures.0, w.of-next.ensures.1))
  | else-way-eq0 w ↦ rw (w.way'-is, w.ways-is) (tried_stays _ _ _ _ _ _ c.loop-hops.invariant c.loop-hops-test.true (lt-leb _ _ c.if-count-way.false) (sym c.take.ensures.value ∙ c.if-not-take.false) _ c.take.ensures.ways_after w.if-way-eq0.false)
]

pub returns-then-count-way-2 : goal.returns-then-count-way-2
returns-then-count-way-2 c =
    let all : c.loop-hops.hops ≡ length c.args.dirs.now = omega arith in
    rw (c.ended-then-count-way-2.ensures, ← all) (has_arrived _ _ _ _ _ _ c.loop-hops.invariant (le-leb _ _ c.if-count-way-2.true))

pub returns : goal.returns
returns c =
    let all : c.loop-hops.hops ≡ length c.args.dirs.now = omega arith in
    rw (c.ended-2.ensures, ← all) (used_up _ _ _ _ _ _ c.loop-hops.invariant c.loop-hops-test.false (lt-leb _ _ c.if-count-way-2.false))
