use native.Mathlib.Omega.{arith}
use Rattle.plan.proofs.Weights.{head_size_law, head_most, three_weights}
use mathlib.Core.Path.{sym, ◌∙◌}
use Rattle.plan_value.specs.Writing.{weight_bytes, head_bytes}
use Rattle.plan_value.proofs.encode.head.Goals as goal

pub overflow_cast-after : goal.overflow_cast-after
overflow_cast-after c = omega (arith, c.size_after-after.ensures, head_most c.args.plan.version)

pub returns-then-weight_bytes-eq0 : goal.returns-then-weight_bytes-eq0
unfolding head_bytes weight_bytes
returns-then-weight_bytes-eq0 c = rw (c.lower-then-weight_bytes-eq0.ensures, c.upper-then-weight_bytes-eq0.ensures, c.lower.ensures, c.upper.ensures, c.size_after-after.ensures, head_size_law c.args.plan.version, sym c.weight_bytes.ensures.0 ∙ c.if-weight_bytes-eq0.true)

pub returns : goal.returns
unfolding head_bytes weight_bytes
returns c = rw (c.lower-2.ensures, c.upper-2.ensures, c.lower.ensures, c.upper.ensures, c.size_after-after.ensures, head_size_law c.args.plan.version, three_weights _ (λ z. c.if-weight_bytes-eq0.false (c.weight_bytes.ensures.0 ∙ z)))
