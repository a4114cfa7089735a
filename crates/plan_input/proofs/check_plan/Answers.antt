use native.Mathlib.Omega.{arith}
use mathlib.Core.Path.{ap, ◌∙◌}
use Rattle.sheet.proofs.Inputs.{read_whole}
use Rattle.plan.specs.Checks.{large, plan_error}
use Rattle.plan_input.proofs.Long.{error_decided}
use Rattle.plan_input.proofs.check_plan.Goals as goal

both : {A B : Type 0} → A × B → record { value : A; by_index : B }
both p = record { value = p.0; by_index = p.1 }

pub returns : goal.returns
returns c = both (let e = c.check.ensures ∙ ap (plan_error large) c.front.ensures.result_value in
    (e, λ whole r. e ∙ read_whole 781 (plan_error large) (error_decided large) whole _ _ (omega arith) r))
