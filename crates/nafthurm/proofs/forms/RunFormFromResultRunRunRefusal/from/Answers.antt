use Rattle.nafthurm.specs.Forms.{run_for}
use Rattle.nafthurm.proofs.forms.RunFormFromResultRunRunRefusal.from.Goals as goal

pub returns-in-Ok : goal.returns-in-Ok
unfolding run_for
returns-in-Ok c = rw c.in-Ok.is

pub returns-in-Err : goal.returns-in-Err
unfolding run_for
returns-in-Err c = rw (c.in-Err.is, c.run_refusal_for.ensures)
