use Prim.Native.Nat.{◌+◌}
use native.Mathlib.Omega.{arith}
use Rattle.masks.proofs.RowMasks.{pick_most, open_useful_row}
use Rattle.masks.proofs.row.open_useful.Goals as goal

-- src/row.rt:74:5
pub range-requires : goal.range-requires
range-requires c = let a = c.args in let p = c.requires in let t = pick_most a.plus (a.c + 1) 0 16 _ c.pick.ensures (omega arith) (omega arith) in let u = pick_most a.plus a.len a.c 16 _ c.pick-2.ensures (omega arith) (omega arith) in (t, u)

-- src/row.rt:70:1
pub returns : goal.returns
returns c = open_useful_row _ _ _ _ _ _ c.requires.0 c.requires.1 c.pick.ensures c.pick-2.ensures c.range.ensures
