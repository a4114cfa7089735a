use native.Mathlib.Omega.{arith}
use Rattle.search.proofs.NearPlaces.{rowing_begin, rowing_turn}
use Rattle.search.proofs.marks.row_where.Goals as goal

pub loop-c-init : goal.loop-c-init
loop-c-init g c = rowing_begin _

pub loop-c-preserved : goal.loop-c-preserved
loop-c-preserved g c = rowing_turn _ _ _ _ _ _ c.loop-c.invariant (omega arith) c.pick-row.ensures (λ f same. same _ _ (omega arith) c.passes.ensures)
