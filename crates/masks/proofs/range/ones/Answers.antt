use native.Mathlib.Omega.{arith}
use Rattle.masks.proofs.Arcs.{ones_is}
use Rattle.masks.proofs.range.ones.Goals as goal

-- src/range.rt:15:5
pub overflow_sub-result : goal.overflow_sub-result
overflow_sub-result c = let h = ones_is c.args.n c.requires in omega arith

-- src/range.rt:10:1
pub returns : goal.returns
returns c = let h = ones_is c.args.n c.requires in (omega arith, omega arith)
