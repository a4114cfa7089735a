use Rattle.planner.proofs.NextOutside.{begin, bounds, row_in, returned, onto, ended, from_node, less}
use native.Mathlib.Omega.{arith}
use Rattle.planner.proofs.outside.next_outside.Reads as reads
use Rattle.planner.proofs.outside.next_outside.Lts as lts
use Rattle.planner.proofs.outside.next_y.Reads as next-y-reads
use Rattle.planner.proofs.outside.next_z.Reads as next-z-reads
use Rattle.planner.proofs.outside.others.Reads as others-reads
use Rattle.rows.proofs.next.next_set.Reads as next-set-reads
use Rattle.planner.proofs.outside.next_outside.Goals as goal

-- src/outside.rt:51:21
pub overflow_sub-first : goal.overflow_sub-first
overflow_sub-first c = (begin _ c.requires.shape_value c.args.rows.now _ c.requires.stands).0

-- src/outside.rt:52:5
pub loop-z-init : goal.loop-z-init
loop-z-init c = (c.requires.shape_value, (begin _ c.requires.shape_value _ _ c.requires.stands).1)

-- src/outside.rt:54:37
pub bounds-rows-r : goal.bounds-rows-r
bounds-rows-r c = let inv = c.loop-z.invariant in row_in _ inv.0 _ _ _ _ _ _ inv.1 c.loop-z-test.true

-- src/outside.rt:57:23
pub overflow_add-result : goal.overflow_add-result
overflow_add-result c = let inv = c.loop-z.invariant in let b = bounds _ inv.0 _ _ _ _ _ _ inv.1 c.loop-z-test.true in omega (arith, b.0, c.if-found-shape.true)

-- src/outside.rt:56:13
pub returns-then-found-shape : goal.returns-then-found-shape
returns-then-found-shape c = let inv = c.loop-z.invariant in from_node _ _ _ _ _ (omega (arith, (begin _ inv.0 c.args.rows.now _ c.requires.stands).0)) (returned _ inv.0 _ _ _ _ _ _ inv.1 c.loop-z-test.true _ _ c.others.ensures c.next_set-found.ensures c.if-found-shape.true)

-- src/outside.rt:63:17
pub overflow_add-first : goal.overflow_add-first
overflow_add-first c = let inv = c.loop-z.invariant in let b = bounds _ inv.0 _ _ _ _ _ _ inv.1 c.loop-z-test.true in omega (arith, b.0)

-- src/outside.rt:64:9
pub next_z-z-requires : goal.next_z-z-requires
next_z-z-requires c = let inv = c.loop-z.invariant in let b = bounds _ inv.0 _ _ _ _ _ _ inv.1 c.loop-z-test.true in (b.1, b.2)

-- src/outside.rt:65:9
pub next_y-y-requires : goal.next_y-y-requires
next_y-y-requires c = let inv = c.loop-z.invariant in let b = bounds _ inv.0 _ _ _ _ _ _ inv.1 c.loop-z-test.true in b.1

-- src/outside.rt:52:5
pub loop-z-smaller : goal.loop-z-smaller
loop-z-smaller c = let inv = c.loop-z.invariant in let b = bounds _ inv.0 _ _ _ _ _ _ inv.1 c.loop-z-test.true in less c.args.shape _ _ _ _ b.1 c.loop-z-test.true c.next_y-y.ensures c.next_z-z.ensures

-- src/outside.rt:52:5
pub loop-z-preserved : goal.loop-z-preserved
loop-z-preserved c = let inv = c.loop-z.invariant in (inv.0, onto _ inv.0 _ _ _ _ _ _ inv.1 c.loop-z-test.true _ _ c.others.ensures c.next_set-found.ensures c.if-found-shape.false _ _ c.next_y-y.ensures c.next_z-z.ensures)

-- src/outside.rt:42:1
pub returns : goal.returns
returns c = let inv = c.loop-z.invariant in from_node _ _ _ _ _ (omega (arith, (begin _ inv.0 c.args.rows.now _ c.requires.stands).0)) (ended _ inv.0 _ _ _ _ _ _ inv.1 c.loop-z-test.false)
