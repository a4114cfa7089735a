use native.Mathlib.Omega.{arith}
use borrow.Author.Tests.{lt-ltb, le-ltb}
use Rattle.sets.specs.Part.{kind_dim}
use Rattle.sets.proofs.part.Kind.dim.Goals as goal

pub returns-in-0-to-5 : goal.returns-in-0-to-5
unfolding kind_dim
returns-in-0-to-5 c = rw (lt-ltb c.args.self.number 6 (omega arith))

pub returns-in-6-to-8 : goal.returns-in-6-to-8
unfolding kind_dim
returns-in-6-to-8 c = rw (le-ltb c.args.self.number 6 (omega arith), lt-ltb c.args.self.number 9 (omega arith))

pub returns-in_default : goal.returns-in_default
unfolding kind_dim
returns-in_default c = rw (le-ltb c.args.self.number 6 (omega arith), le-ltb c.args.self.number 9 (omega arith))
