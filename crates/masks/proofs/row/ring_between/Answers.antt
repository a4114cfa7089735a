use lib.Dec.{eqb}
use Prim.Native.Nat.{◌+◌}
use native.Mathlib.Omega.{arith}
use Rattle.masks.proofs.RowMasks.{pick_most, ring_row}
use Rattle.masks.proofs.row.ring_between.Goals as goal

-- src/row.rt:33:5
pub arcs-requires : goal.arcs-requires
arcs-requires c = let a = c.args in let p = c.requires in let w = c.hops-w.ensures in let k = c.hops-w.result in let t = pick_most (eqb k 0) a.len (k + 1) a.len _ c.pick-top.ensures (omega arith) (omega arith) in (p.0, p.2, omega arith, omega arith, omega arith, t)

-- src/row.rt:26:1
pub returns : goal.returns
returns c = ring_row _ _ _ _ _ _ c.requires.1 c.requires.2 c.hops-w.ensures.0 c.pick-top.ensures c.arcs.ensures
