use borrow.Author.Tests.{eq-eqb, ne_eqb}
use Rattle.routes.specs.Layout.{second_via}
use Rattle.routes.proofs.layout.second_via.Goals as goal

pub returns-then-format-eq1 : goal.returns-then-format-eq1
unfolding second_via
returns-then-format-eq1 c = rw (eq-eqb _ 1 c.if-format-eq1.true)

pub returns : goal.returns
unfolding second_via
returns c = rw (ne_eqb _ 1 c.if-format-eq1.false, c.word_at.ensures.value, c.entry_place.ensures.value)
