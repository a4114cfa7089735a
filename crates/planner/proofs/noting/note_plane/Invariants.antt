use Prim.Native.Nat.{◌+◌, ◌*◌, ◌≤◌, ◌<◌}
use mathlib.Core.Path.{◌≡◌}
use mathlib.Core.Bool.{true}
use lib.ListN.{length}
use Rattle.rows.specs.Bits.{bit}
use Rattle.planner.specs.Ranked.{Noting}
use Rattle.planner.proofs.noting.note_plane.Given as goal

abbrev pub invariant-loop-y : goal.invariant-loop-y
invariant-loop-y l = let it = l.y-iterator in let o = l.outward in let s = o.source.now in (it.mask ≡ l.word) × (it.len ≡ 16) × (it.next ≤ 16) × (it.next < 16 → bit l.word it.next ≡ true) × (length l.near ≡ 256) × Noting s.known.plan.now s.known.work.now s.node o.skip.now l.notes l.twos (65536 * l.r + 256 * (it.next + 16 * l.z))
