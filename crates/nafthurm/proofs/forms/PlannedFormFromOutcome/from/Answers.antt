use Rattle.nafthurm.specs.Forms.{planned_for}
use Rattle.nafthurm.proofs.forms.PlannedFormFromOutcome.from.Goals as goal

pub returns : goal.returns
unfolding planned_for
returns c = rw (c.length_for.ensures, c.into.ensures)
