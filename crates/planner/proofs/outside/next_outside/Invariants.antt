use Prim.Native.Nat.{◌+◌, ◌-◌, ◌*◌}
use mathlib.Core.Path.{◌≡◌}
use Rattle.shape.specs.Shape.{shape_error}
use Rattle.planner.proofs.NextOutside.{Looking}
use Rattle.planner.proofs.outside.next_outside.Reads as reads
use Rattle.planner.proofs.outside.next_outside.Lts as lts
use Rattle.planner.proofs.outside.next_y.Reads as next-y-reads
use Rattle.planner.proofs.outside.next_z.Reads as next-z-reads
use Rattle.planner.proofs.outside.others.Reads as others-reads
use Rattle.rows.proofs.next.next_set.Reads as next-set-reads
use Rattle.planner.proofs.outside.next_outside.Given as goal

abbrev pub invariant-loop-z : goal.invariant-loop-z
invariant-loop-z l = (h : shape_error l.shape ≡ 0) × Looking l.shape h l.rows (l.initial.first + l.initial.x) l.x l.y l.z l.first

abbrev pub decreases-loop-z : goal.decreases-loop-z
decreases-loop-z l = 32 * (l.shape.z - l.z) + (l.shape.y - l.y)
