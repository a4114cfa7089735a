use mathlib.Core.Path.{sym, ◌∙◌}
use Rattle.routes.specs.Steps.{found_in}
use Rattle.routes.proofs.route.found_in.Goals as goal

pub returns-in_err-i : goal.returns-in_err-i
unfolding found_in
returns-in_err-i c = rw (c.from_residual.ensures, sym c.find_entry.ensures ∙ c.in_err-i.was)

pub returns : goal.returns
unfolding found_in
returns c = rw (c.entry_in.ensures, sym c.find_entry.ensures ∙ c.in_ok-i.was)
