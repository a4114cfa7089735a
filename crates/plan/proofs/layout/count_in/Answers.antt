use native.Mathlib.Omega.{arith}
use Rattle.plan.specs.Layout.{fault_count}
use Rattle.plan.proofs.layout.count_in.Goals as goal

pub overflow_sub-head_size : goal.overflow_sub-head_size
overflow_sub-head_size c = omega (arith, c.head_size.ensures.1)

pub returns : goal.returns
unfolding fault_count
returns c = rw (← c.version_in.ensures, ← c.head_size.ensures.0) c.word_at.ensures.value
