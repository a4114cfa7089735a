use native.Mathlib.Omega.{arith}
use Rattle.first_clear.proofs.Steps.{via_high}
use Rattle.planner.proofs.Destination.{bit_at, nearing, via_near}
use Rattle.planner.proofs.dest.near_to.Goals as goal

pub returns-in-Some : goal.returns-in-Some
returns-in-Some c = λ own two. let k = c.args.target.now in let source = k.source.now in via_near source.ready k.node_at source.known.weighed c.requires _ own _ c.distance_at-length.ensures _ c.via_outcome.ensures _ c.in-Some.is

pub returns : goal.returns
returns c = λ own two. let k = c.args.target.now in let source = k.source.now in let over = via_high _ _ _ c.via_outcome.ensures c.in_default.is in c.near_outcome.ensures _ _ _ (nearing source.ready k.node_at source.known.weighed c.requires _ own _ c.distance_at-length.ensures _ (bit_at source.ready k.node_at _ _ (c.has-straight.ensures (omega arith))) over _ (two over))
