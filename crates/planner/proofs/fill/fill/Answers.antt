use Prim.Native.Nat.{◌+◌, ◌*◌, ◌≤◌}
use lib.ListN.{length}
use mathlib.Core.Path.{refl}
use native.Mathlib.Omega.{arith}
use Rattle.planner.proofs.Filling.{none_filled, to_fill, one_filled, all_filled}
use Rattle.planner.proofs.fill.fill.Goals as goal

pub loop-node-init : goal.loop-node-init
loop-node-init c = none_filled _ _

pub loop-node-preserved : goal.loop-node-preserved
loop-node-preserved c = let k = c.args.known.now.prepared in let inv = c.loop-node.invariant in let room : 512 * c.loop-node.node + 512 ≤ length c.loop-node.work = omega (arith, c.requires.1, inv.long) in let ends = to_fill _ _ _ _ _ _ _ _ c.gather-adaptive.result c.gather-deterministic.result k.of_plan k.adaptive k.deterministic (omega (arith, c.requires.0)) c.coords-c.ensures c.gather-adaptive.ensures c.gather-deterministic.ensures in one_filled _ k.of_plan.plan _ _ _ _ _ refl inv (c.put_both.ensures.by_index _ _ _ _ ends room) (c.put_both.ensures.elsewhere room)

pub shape_of-work : goal.shape_of-work
shape_of-work c = c.loop-node.invariant.long

pub returns : goal.returns
returns c = all_filled _ _ _ _ (let e = c.requires.0 in omega arith) c.loop-node.invariant
