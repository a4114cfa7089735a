use mathlib.Core.Path.{sym, ◌∙◌}
use Rattle.routes.specs.Checks.{via_good}
use Rattle.routes.proofs.checks.Origin.via_good.Goals as goal

pub returns-then-has_vias : goal.returns-then-has_vias
unfolding via_good
returns-then-has_vias c = rw (sym c.has_vias.ensures ∙ c.if-has_vias.true) c.two_good.ensures

pub returns-then-has_via : goal.returns-then-has_via
unfolding via_good
returns-then-has_via c = rw (sym c.has_vias.ensures ∙ c.if-has_vias.false, sym c.has_via.ensures ∙ c.if-has_via.true) c.one_good.ensures

pub returns : goal.returns
unfolding via_good
returns c = rw (sym c.has_vias.ensures ∙ c.if-has_vias.false, sym c.has_via.ensures ∙ c.if-has_via.false, c.both-2.ensures, c.both.ensures, c.is_plain.ensures)
