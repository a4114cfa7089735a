use native.Mathlib.Omega.{arith}
use borrow.Author.Tests.{le-leb, lt-leb}
use Rattle.routes.specs.Kinds.{via_kind}
use Rattle.routes.proofs.kinds.has_via.Goals as goal

pub returns-in-16-to-19 : goal.returns-in-16-to-19
unfolding via_kind
returns-in-16-to-19 c = rw (le-leb 16 c.args.kind (omega arith), le-leb c.args.kind 19 (omega arith))

pub returns-in_default : goal.returns-in_default
unfolding via_kind
returns-in_default c = rw (lt-leb 16 c.args.kind (omega arith))

pub returns-in_default-2 : goal.returns-in_default-2
unfolding via_kind
returns-in_default-2 c = rw (le-leb 16 c.args.kind (omega arith), lt-leb c.args.kind 19 (omega arith))
