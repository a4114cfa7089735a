use Prim.Native.Nat.{◌^◌, ◌≤◌}
use mathlib.Core.Path.{◌≡◌}
use mathlib.Core.Bool.{cond}
use Rattle.shape.specs.Steps.{goes}
use Rattle.machine.specs.Hop.{rule}
use Rattle.rows.specs.Bits.{row_of}
use Rattle.masks.specs.End.{begins}
use Rattle.masks.proofs.row.ways_row.Given as goal

abbrev pub invariant-loop-x : goal.invariant-loop-x
invariant-loop-x l = (l.axis.len ≤ 16) × (l.bit ≡ 2 ^ l.x) × (l.row ≡ row_of (λ n. goes rule l.axis.len l.axis.ring (cond (begins l.end) l.at n) (cond (begins l.end) n l.at)) l.x)
