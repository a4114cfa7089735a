use native.Mathlib.Omega.{arith}
use Rattle.std.proofs.lemmas.List.{length-take-le, get_or-take}
use Rattle.sets.proofs.Taking.{clear_begin, clear_turn, clear_end}
use Rattle.sets.proofs.clear.clear_in.Goals as goal

pub loop-w-init : goal.loop-w-init
loop-w-init c = clear_begin _ _ _ _ _ _ c.product-rows.ensures

pub loop-w-preserved : goal.loop-w-preserved
loop-w-preserved c = let n = length-take-le c.min-n.result c.args.losses.now (omega arith) in clear_turn _ _ _ _ _ _ _ _ _ c.loop-w.invariant (get_or-take c.min-n.result c.args.losses.now c.loop-w.w-index 0 (omega arith)) c.less_loss.ensures

pub returns : goal.returns
returns c = let n = length-take-le c.min-n.result c.args.losses.now (omega arith) in clear_end _ _ _ _ _ _ _ _ (omega arith) c.loop-w.invariant
