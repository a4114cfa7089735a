use native.Mathlib.Omega.{arith}
use Rattle.search.proofs.Scatter.{scatter_begin, scatter_fits, scatter_turn, levels_of}
use Rattle.search.proofs.parts.levels.Goals as goal

pub loop-x-init : goal.loop-x-init
loop-x-init c = scatter_begin _

pub overflow_add-xs : goal.overflow_add-xs
overflow_add-xs c = let w = scatter_fits _ _ _ _ c.part.result c.loop-x.invariant (omega arith) (omega (arith, c.part.ensures.1)) in omega (arith, w.1)

pub loop-x-preserved : goal.loop-x-preserved
loop-x-preserved c = scatter_turn _ _ _ _ _ c.loop-x.invariant c.part.ensures.0 (omega (arith, c.part.ensures.1))

pub returns : goal.returns
returns c = levels_of _ _ _ _ _ _ _ c.loop-x.invariant (omega arith) (omega arith)
