use native.Mathlib.Omega.{arith}
use borrow.Author.Tests.{le-leb, lt-leb}
use Rattle.routes.specs.Kinds.{vias_kind}
use Rattle.routes.proofs.kinds.has_vias.Goals as goal

pub returns-in-32-to-39 : goal.returns-in-32-to-39
unfolding vias_kind
returns-in-32-to-39 c = rw (le-leb 32 c.args.kind (omega arith), le-leb c.args.kind 39 (omega arith))

pub returns-in_default : goal.returns-in_default
unfolding vias_kind
returns-in_default c = rw (lt-leb 32 c.args.kind (omega arith))

pub returns-in_default-2 : goal.returns-in_default-2
unfolding vias_kind
returns-in_default-2 c = rw (le-leb 32 c.args.kind (omega arith), lt-leb c.args.kind 39 (omega arith))
