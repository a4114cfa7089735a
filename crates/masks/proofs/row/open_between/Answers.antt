use lib.Dec.{leb}
use Prim.Native.Nat.{◌+◌}
use native.Mathlib.Omega.{arith}
use Rattle.masks.proofs.RowMasks.{pick_most, open_row}
use Rattle.masks.proofs.row.open_between.Goals as goal

-- src/row.rt:40:9
pub range-up-requires : goal.range-up-requires
range-up-requires c = let a = c.args in let p = c.requires in let t = pick_most (leb a.at a.c) a.len 0 16 _ c.pick.ensures (omega arith) (omega arith) in (omega arith, t)

-- src/row.rt:41:9
pub range-down-requires : goal.range-down-requires
range-down-requires c = let a = c.args in let p = c.requires in let t = pick_most (leb a.c a.at) (a.c + 1) 0 16 _ c.pick-2.ensures (omega arith) (omega arith) in (omega arith, t)

-- src/row.rt:36:1
pub returns : goal.returns
returns c = open_row _ _ _ _ _ _ _ c.requires.0 c.requires.1 c.requires.2 c.pick.ensures c.pick-2.ensures c.range-up.ensures c.range-down.ensures
