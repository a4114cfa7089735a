use Prim.Native.Nat.{◌+◌, ◌-◌, ◌/◌}
use native.Mathlib.Omega.{arith}
use Rattle.masks.proofs.RowMasks.{pick_most, ring_useful_row}
use Rattle.masks.proofs.row.ring_useful.Goals as goal

-- src/row.rt:62:5
pub arc-requires : goal.arc-requires
arc-requires c = let a = c.args in let p = c.requires in let t = pick_most a.plus 1 (a.len - a.len / 2) 16 _ c.pick.ensures (omega arith) (omega arith) in let u = pick_most a.plus (a.len / 2 + 1) a.len a.len _ c.pick-2.ensures (omega arith) (omega arith) in (p.0, p.1, t, u)

-- src/row.rt:57:1
pub returns : goal.returns
returns c = ring_useful_row _ _ _ _ _ _ c.requires.1 c.pick.ensures c.pick-2.ensures c.arc.ensures
