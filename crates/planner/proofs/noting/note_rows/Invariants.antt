use Prim.Native.Nat.{◌+◌, ◌*◌}
use mathlib.Core.Path.{◌≡◌}
use lib.ListN.{length}
use Rattle.planner.specs.Ranked.{Noting}
use Rattle.planner.proofs.noting.note_rows.Given as goal

abbrev pub invariant-loop-z : goal.invariant-loop-z
invariant-loop-z l = (length l.near ≡ 256) × (let s = l.outward.source.now in Noting s.known.plan.now s.known.work.now s.node l.outward.skip.now l.notes l.twos (65536 * l.r + 4096 * l.z))
