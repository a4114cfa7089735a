use mathlib.Core.Path.{sym, ◌∙◌}
use Rattle.std.proofs.lemmas.Result.{err_from_is_err_and}
use Rattle.sheet.proofs.Outputs.{not_0}
use Rattle.plan.specs.Checks.{torus_plans}
use Rattle.plan.proofs.Plans.{head_refused, shape_refused, weights_refused, faults_left_law}
use Rattle.plan.proofs.checks.check.Goals as goal

pub returns-in_err-check_head : goal.returns-in_err-check_head
returns-in_err-check_head c =
    let p = err_from_is_err_and c.from_residual.result c.from_residual.ensures.1 in
    rw (p.1, p.2) (head_refused torus_plans _ _ _ c.in_err-check_head.ensures (not_0 _))

pub returns-in_err-check : goal.returns-in_err-check
returns-in_err-check c =
    let p = err_from_is_err_and c.from_residual-in_err-check.result c.from_residual-in_err-check.ensures.1 in
    rw (p.1, p.2) (shape_refused torus_plans _ _ (sym c.in_ok-check_head.ensures) _ c.shape_in-shape.ensures _ c.in_err-check.ensures (not_0 _))

pub returns-in_err-check-2 : goal.returns-in_err-check-2
returns-in_err-check-2 c =
    let p = err_from_is_err_and c.from_residual-in_err-check-2.result c.from_residual-in_err-check-2.ensures.1 in
    rw (p.1, p.2) (weights_refused torus_plans _ _ (sym c.in_ok-check_head.ensures) _ c.shape_in-shape.ensures (sym c.in_ok-check.ensures) _ (c.in_err-check-2.ensures ∙ rw c.weights_in.ensures) (not_0 _))

pub returns : goal.returns
returns c = faults_left_law torus_plans _ _ (sym c.in_ok-check_head.ensures) _ c.shape_in-shape.ensures (sym c.in_ok-check.ensures) _ (sym (c.in_ok-check-2.ensures ∙ rw c.weights_in.ensures)) c.check_faults.ensures
