use native.Mathlib.Omega.{arith}
use mathlib.Core.Path.{◌∙◌}
use Rattle.nafthurm.proofs.Laws.{refused_in, said_in}
use Rattle.nafthurm.proofs.forms.outcome_in.Goals as goal

pub returns-then-form-ne0 : goal.returns-then-form-ne0
returns-then-form-ne0 c = c.refused.ensures ∙ refused_in _ _ (λ z. omega arith)

pub returns : goal.returns
returns c = c.outcome_by.ensures ∙ said_in _ _ (omega arith)
