use native.Mathlib.Omega.{arith}
use mathlib.Core.Path.{refl}
use Rattle.planner.proofs.Destination.{dest_small, bit_at, dead_told, alive_told, direct_told, not_direct}
use Rattle.planner.proofs.dest.outcome_to.Goals as goal

pub returns-then-has : goal.returns-then-has
returns-then-has c = λ _ _ _. let k = c.args.target.now in let source = k.source.now in direct_told source.ready k.node_at source.known.weighed _ (bit_at source.ready k.node_at _ _ (c.has.ensures (omega arith))) c.if-has.true _ c.distance_at-length.ensures

pub bounds-known-i : goal.bounds-known-i
bounds-known-i c = let k = c.args.target.now in dest_small k.source.now.ready k.node_at

pub returns-then-known-i-ne0 : goal.returns-then-known-i-ne0
returns-then-known-i-ne0 c = λ _ _ _. let k = c.args.target.now in dead_told k.source.now.ready k.node_at c.if-known-i-ne0.true

pub bounds-notes-i : goal.bounds-notes-i
bounds-notes-i c = let k = c.args.target.now in dest_small k.source.now.ready k.node_at

pub bounds-twos-i : goal.bounds-twos-i
bounds-twos-i c = let k = c.args.target.now in dest_small k.source.now.ready k.node_at

pub near_to-requires : goal.near_to-requires
near_to-requires c = let k = c.args.target.now in let g = k.source.now.ready in not_direct g k.node_at _ (bit_at g k.node_at _ _ (c.has.ensures (omega arith))) c.if-has.false

pub returns-in-Some : goal.returns-in-Some
returns-in-Some c = λ _ noted twos. let k = c.args.target.now in let g = k.source.now.ready in let to = k.node_at in let direct = not_direct g to _ (bit_at g to _ _ (c.has.ensures (omega arith))) c.if-has.false in alive_told g to c.if-known-i-ne0.false _ ((c.near_to.ensures (noted _ to.node) (λ over. twos _ to.node direct over)).given _ c.in-Some.is)

pub far_to-requires : goal.far_to-requires
far_to-requires c = let k = c.args.target.now in let g = k.source.now.ready in record { direct = not_direct g k.node_at _ (bit_at g k.node_at _ _ (c.has.ensures (omega arith))) c.if-has.false; own = refl }

pub returns : goal.returns
returns c = λ sets noted twos. let k = c.args.target.now in let g = k.source.now.ready in let to = k.node_at in let direct = not_direct g to _ (bit_at g to _ _ (c.has.ensures (omega arith))) c.if-has.false in alive_told g to c.if-known-i-ne0.false _ (c.far_to.ensures sets noted ((c.near_to.ensures (noted _ to.node) (λ over. twos _ to.node direct over)).none c.in_default.is))
