use native.Mathlib.Omega.{arith}
use Rattle.plan.specs.Layout.{layout_of}
use Rattle.plan.proofs.layout.head_size.Goals as goal

pub overflow_add-result : goal.overflow_add-result
overflow_add-result c = omega (arith, c.weight_bytes.ensures.1)

pub returns : goal.returns
unfolding layout_of
returns c = (omega (arith, c.weight_bytes.ensures.0), (omega arith, omega (arith, c.weight_bytes.ensures.1)))
