use Rattle.plan.specs.Layout.{fault_at}
use native.Mathlib.Omega.{arith}
use Rattle.plan.proofs.layout.fault_in.Goals as goal

pub overflow_add-at : goal.overflow_add-at
overflow_add-at c = omega (arith, c.head_size.ensures.1)

pub overflow_add-at-2 : goal.overflow_add-at-2
overflow_add-at-2 c = omega (arith, c.head_size.ensures.1)

pub returns : goal.returns
unfolding fault_at
returns c = rw (← c.version_in.ensures, ← c.head_size.ensures.0, c.byte_at.ensures, c.word_at.ensures.value)
