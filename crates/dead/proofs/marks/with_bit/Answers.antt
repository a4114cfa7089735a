use native.Mathlib.Omega.{arith}
use Rattle.dead.proofs.Bits.{or_is}
use Rattle.dead.proofs.marks.with_bit.Goals as goal

pub returns : goal.returns
returns c = or_is _ _ (omega arith) c.requires
