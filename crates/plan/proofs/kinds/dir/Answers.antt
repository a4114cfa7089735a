use native.Mathlib.Omega.{arith}
use borrow.Author.Tests.{ne_eqb}
use Rattle.plan.specs.Kinds.{kind_dir, kind_dim}
use Rattle.plan.proofs.kinds.dir.Goals as goal

pub returns-in-0-clause-value : goal.returns-in-0-clause-value
unfolding kind_dir kind_dim
returns-in-0-clause-value c = rw c.in-0.is

pub returns-in-1-clause-value : goal.returns-in-1-clause-value
unfolding kind_dir kind_dim
returns-in-1-clause-value c = rw c.in-1.is

pub returns-in_default-clause-value : goal.returns-in_default-clause-value
unfolding kind_dir kind_dim
returns-in_default-clause-value c = rw (ne_eqb c.args.kind 0 (λ e. omega arith), ne_eqb c.args.kind 1 (λ e. omega arith))
