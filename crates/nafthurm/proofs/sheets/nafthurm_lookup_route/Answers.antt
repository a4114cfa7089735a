use mathlib.Core.Path.{ap, ◌∙◌}
use Rattle.nafthurm.specs.Forms.{route_for}
use Rattle.nafthurm.proofs.Numbers.{route_number}
use Rattle.nafthurm.proofs.sheets.nafthurm_lookup_route.Goals as goal

pub returns : goal.returns
returns c = record { value = c.into.ensures ∙ ap route_for c.route.ensures.value; number = route_number _ _ c.into.ensures ∙ c.route.ensures.number }
