use Rattle.nafthurm.specs.Forms.{route_for}
use Rattle.nafthurm.proofs.forms.RouteFormFromOutcome.from.Goals as goal

pub returns : goal.returns
unfolding route_for
returns c = rw (c.number.ensures, c.entry_for-entry.ensures)
