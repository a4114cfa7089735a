use native.Mathlib.Omega.{arith}
use borrow.Author.Tests.{eq-eqb, ne_eqb}
use Rattle.plan.specs.Layout.{layout_of}
use Rattle.plan.proofs.layout.weight_bytes.Goals as goal

pub returns-then-version-eq2 : goal.returns-then-version-eq2
unfolding layout_of
returns-then-version-eq2 c = (rw (eq-eqb _ 2 c.if-version-eq2.true), omega arith)

pub returns-else-version-eq2 : goal.returns-else-version-eq2
unfolding layout_of
returns-else-version-eq2 c = (rw (ne_eqb _ 2 c.if-version-eq2.false), omega arith)
