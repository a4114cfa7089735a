use borrow.Author.Tests.{eq-eqb, ne_eqb}
use Rattle.routes.specs.Layout.{format_by}
use mathlib.Core.Path.{sym, ◌∙◌}
use Rattle.routes.proofs.layout.format_in.Goals as goal

pub returns-then-version_in-eq-SECOND_VERSION : goal.returns-then-version_in-eq-SECOND_VERSION
unfolding format_by
returns-then-version_in-eq-SECOND_VERSION c = rw (eq-eqb _ 2 (sym c.version_in.ensures ∙ c.if-version_in-eq-SECOND_VERSION.true)) c.one_via.ensures

pub returns-else-version_in-eq-SECOND_VERSION : goal.returns-else-version_in-eq-SECOND_VERSION
unfolding format_by
returns-else-version_in-eq-SECOND_VERSION c = rw (ne_eqb _ 2 (λ z. c.if-version_in-eq-SECOND_VERSION.false (c.version_in.ensures ∙ z)))
