use Rattle.std.proofs.lemmas.Result.{err_from_is_err_and}
use Rattle.conversion.proofs.Judging.{plan_refused, plan_judged}
use Rattle.conversion.proofs.judge.judge.Goals as goal

pub returns-in_err-check : goal.returns-in_err-check
returns-in_err-check c = let p = err_from_is_err_and c.from_residual.result c.from_residual.ensures.1 in rw (p.1, p.2) (plan_refused _ _ _ _ c.in_err-check.ensures)

pub returns : goal.returns
returns c = plan_judged _ _ _ c.in_ok-check.ensures _ c.shape_in.ensures _ c.judge_sheet.ensures
