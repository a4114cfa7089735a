use Rattle.search.specs.Outward.{rank_at}
use Rattle.planner.specs.Ranked.{Noting}
use Rattle.planner.proofs.noting.note_row.Given as goal

abbrev pub invariant-loop-k : goal.invariant-loop-k
invariant-loop-k l = let s = l.outward.source.now in Noting s.known.plan.now s.known.work.now s.node l.outward.skip.now l.notes l.twos (rank_at l.r l.y l.z l.k 0)
