use native.Mathlib.Omega.{arith}
use Rattle.plan.proofs.layout.size_after.Goals as goal

pub overflow_sub-result : goal.overflow_sub-result
overflow_sub-result c = omega (arith, c.head_size.ensures.1)

pub overflow_add-result : goal.overflow_add-result
overflow_add-result c = omega (arith, c.head_size.ensures.1)

pub returns : goal.returns
returns c = omega (arith, c.head_size.ensures.0, c.head_size.ensures.1)
