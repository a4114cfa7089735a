use borrow.Author.Tests.{lt-ltb, le-ltb}
use Prim.Native.Nat.{◌+◌}
use Rattle.planner.proofs.outside.next_y.Reads as reads
use Rattle.planner.proofs.outside.next_y.Lts as lts
use Rattle.planner.proofs.outside.next_y.Goals as goal

-- src/outside.rt:20:1
pub returns-then-y-rows : goal.returns-then-y-rows
returns-then-y-rows c = rw (lt-ltb (c.args.y + 1) c.args.rows c.if-y-rows.true)

-- src/outside.rt:20:1
pub returns-else-y-rows : goal.returns-else-y-rows
returns-else-y-rows c = rw (le-ltb (c.args.y + 1) c.args.rows c.if-y-rows.false)
