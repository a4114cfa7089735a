use mathlib.Core.Path.{◌∙◌}
use native.Mathlib.Omega.{arith}
use Rattle.std.proofs.lemmas.List.{length-take-le, get_or-take}
use Rattle.sets.proofs.Sifting.{sift_begin, sift_turn}
use Rattle.sets.proofs.sift.sift.Goals as goal

pub loop-w-init : goal.loop-w-init
loop-w-init c = sift_begin _ _ _ _ _

pub loop-w-preserved : goal.loop-w-preserved
loop-w-preserved c = let n = length-take-le c.min-n.result c.args.losses.now (omega arith) in sift_turn _ _ _ _ _ _ _ _ _ _ _ c.loop-w.invariant (omega arith) (get_or-take c.min-n.result c.args.losses.now c.loop-w.w-index 0 (omega arith)) c.reaches.ensures (λ t. c.from-found.ensures ∙ rw t) (λ t. c.from-found.ensures ∙ rw t)
