use Prim.Native.Nat.{◌≤◌, ◌<◌}
use mathlib.Core.Path.{◌≡◌}
use mathlib.Core.Bool.{true}
use Rattle.rows.specs.Bits.{bit}
use Rattle.search.specs.Outward.{rank_at}
use Rattle.planner.specs.Ranked.{Noting}
use Rattle.planner.proofs.noting.note_word.Given as goal

abbrev pub invariant-loop-x : goal.invariant-loop-x
invariant-loop-x l = let it = l.x-iterator in let o = l.row.outward.now in let s = o.source.now in (it.mask ≡ l.word) × (it.len ≡ 16) × (it.next ≤ 16) × (it.next < 16 → bit l.word it.next ≡ true) × Noting s.known.plan.now s.known.work.now s.node o.skip.now l.notes l.twos (rank_at l.row.r l.row.y l.row.z l.k it.next)
