use mathlib.Core.Logic.{⊎_elim}
use native.Mathlib.Omega.{arith}
use borrow.Author.Tests.{ne_eqb}
use Rattle.routes.specs.Kinds.{plain_kind}
use Rattle.routes.proofs.kinds.is_plain.Goals as goal

pub returns-in-1 : goal.returns-in-1
unfolding plain_kind
returns-in-1 c = ⊎_elim (λ e. rw e) (λ h. ⊎_elim (λ e. rw e) (λ e. rw e) h) c.in-1.is

pub returns-in_default : goal.returns-in_default
unfolding plain_kind
returns-in_default c = rw (ne_eqb c.args.kind 1 (λ z. grind arith), ne_eqb c.args.kind 160 (λ z. grind arith), ne_eqb c.args.kind 176 (λ z. grind arith))
