use Prim.Native.Nat.{◌+◌, ◌≤◌}
use lib.ListN.{length}
use Rattle.notes.specs.Rows.{Put}
use Rattle.notes.proofs.sets_of.put_rows.Given as goal

abbrev pub invariant-loop-i : goal.invariant-loop-i
invariant-loop-i l = (l.at + 256 ≤ length l.initial.run) × Put l.at l.rows l.i l.initial.run l.run
