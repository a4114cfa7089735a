use borrow.Author.Tests.{eq-eqb, ne_eqb}
use Rattle.routes.specs.Layout.{kind_in}
use Rattle.routes.proofs.layout.kind_in.Goals as goal

pub returns-then-format-eq1 : goal.returns-then-format-eq1
unfolding kind_in
returns-then-format-eq1 c = rw (eq-eqb _ 1 c.if-format-eq1.true) c.from_old.ensures

pub returns-else-format-eq1 : goal.returns-else-format-eq1
unfolding kind_in
returns-else-format-eq1 c = rw (ne_eqb _ 1 c.if-format-eq1.false)
