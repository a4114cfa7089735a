use mathlib.Core.Path.{refl}
use Rattle.std.proofs.lemmas.Result.{err_from_is_err_and}
use Rattle.sheet.proofs.Outputs.{not_0}
use Rattle.planner.proofs.FirstError.{run_declined, run_error_law}
use Rattle.planner.proofs.run.check_run.Goals as goal

pub returns-in_err-check : goal.returns-in_err-check
returns-in_err-check c =
    let p = err_from_is_err_and c.from_residual.result c.from_residual.ensures.1 in
    rw (p.1, p.2) (run_declined _ _ _ (not_0 _) c.in_err-check.ensures)

pub returns : goal.returns
returns c = run_error_law _ _ c.shape_in.ensures 0 c.in_ok-check.ensures _ _ _ c.check_ends.ensures _ c.is_node.ensures refl
