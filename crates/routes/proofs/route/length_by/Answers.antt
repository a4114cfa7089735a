use Prim.Native.Nat.{◌/◌}
use native.Mathlib.Omega.{arith}
use borrow.Author.Rules.{rules}
use borrow.Author.Tests.{ne_eqb}
use Rattle.routes.specs.Steps.{length_by}
use Rattle.routes.proofs.route.length_by.Goals as goal

pub returns-in-2 : goal.returns-in-2
unfolding length_by
returns-in-2 c = rw c.in-2.is (search rules)

pub returns-in-1 : goal.returns-in-1
unfolding length_by
returns-in-1 c = rw c.in-1.is (search rules)

pub returns-in_default : goal.returns-in_default
unfolding length_by
returns-in_default c = rw (ne_eqb (c.args.e.kind / 16) 2 (λ z. omega arith), ne_eqb (c.args.e.kind / 16) 1 (λ z. omega arith)) (search rules)
