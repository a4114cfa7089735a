use native.Mathlib.Omega.{arith}
use mathlib.Core.Path.{sym, ◌∙◌}
use Rattle.planner.proofs.Pairs.{leg_is, direct_told, pair_between, pair_via}
use Rattle.planner.proofs.pair.route.Goals as goal

pub returns-then-leg_clear : goal.returns-then-leg_clear
returns-then-leg_clear c = let k = c.args.pair.now in direct_told k.weighed k.of_plan k.from k.to _ c.leg_clear.ensures c.if-leg_clear.true _ c.distance_at-length.ensures

pub returns-in-Some : goal.returns-in-Some
returns-in-Some c = let k = c.args.pair.now in let direct = sym (leg_is k.weighed k.of_plan k.from k.to _ _ c.leg_clear.ensures) ∙ c.if-leg_clear.false in pair_via k.weighed k.of_plan k.from k.to _ _ _ (c.from_set-from.ensures _ _ k.of_plan k.from) (omega arith) (c.put_between.ensures _ _ _ _ (pair_between k.weighed k.of_plan k.from k.to _ _ c.ends-masks.ensures (omega arith))) _ c.box_of.ensures _ c.in-Some.ensures.first c.in-Some.ensures.node direct _ c.distance_at-length.ensures

pub further-requires : goal.further-requires
further-requires c = let k = c.args.pair.now in record { from_set = c.from_set-from.ensures _ _ k.of_plan k.from; direct = sym (leg_is k.weighed k.of_plan k.from k.to _ _ c.leg_clear.ensures) ∙ c.if-leg_clear.false }
