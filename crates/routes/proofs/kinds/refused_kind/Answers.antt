use mathlib.Core.Path.{sym, ap, ◌∙◌}
use borrow.Author.Tests.{ne_eqb}
use Rattle.numbers.specs.Numbers.{dead_end, no_clear_choice}
use Rattle.numbers.specs.Refusals.{number, refusal}
use Rattle.numbers.proofs.Refusals.{refusal-number}
use Rattle.routes.specs.Kinds.{refused_kind}
use Rattle.routes.proofs.kinds.refused_kind.Goals as goal

pub returns-in-DeadEnd : goal.returns-in-DeadEnd
unfolding refused_kind
returns-in-DeadEnd c = rw c.in-DeadEnd.is

pub returns-in-NoClearChoice : goal.returns-in-NoClearChoice
unfolding refused_kind
returns-in-NoClearChoice c = rw c.in-NoClearChoice.is

pub returns-in_default : goal.returns-in_default
unfolding refused_kind
returns-in_default c =
    let n = number c.args.refusal in
    let same = refusal-number c.args.refusal in
    rw (ne_eqb n dead_end (λ z. c.in_default.not-DeadEnd (sym same ∙ ap refusal z)), ne_eqb n no_clear_choice (λ z. c.in_default.not-NoClearChoice (sym same ∙ ap refusal z)))
