use native.Mathlib.Omega.{arith}
use Rattle.rows.specs.Bits.{bit}
use Rattle.rows.proofs.Bits.{bit_past}
use Rattle.search.proofs.dets.det_at.Goals as goal

pub returns-then-x-ge16 : goal.returns-then-x-ge16
returns-then-x-ge16 c = rw (bit_past 16 c.args.adaptive c.args.x (omega arith) c.if-x-ge16.true) c.det.ensures

pub returns : goal.returns
unfolding bit
returns c = c.det-2.ensures
