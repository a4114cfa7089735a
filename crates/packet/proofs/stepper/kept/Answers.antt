use borrow.Author.Tests.{eq-eqb, ne_eqb}
use Rattle.packet.specs.Course.{kept_of}
use Rattle.packet.proofs.stepper.kept.Goals as goal

pub returns-then-hops-eq0 : goal.returns-then-hops-eq0
unfolding kept_of
returns-then-hops-eq0 c = rw (eq-eqb _ _ c.if-hops-eq0.true)

pub returns : goal.returns
unfolding kept_of
returns c = rw (ne_eqb _ _ c.if-hops-eq0.false) c.packet.ensures
