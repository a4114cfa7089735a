use mathlib.Core.Path.{◌∙◌}
use Rattle.plan.proofs.Weights.{no_weights_law, some_weights}
use Rattle.plan.proofs.layout.weights_in.Goals as goal

pub returns-then-weight_bytes-eq0 : goal.returns-then-weight_bytes-eq0
returns-then-weight_bytes-eq0 c = no_weights_law _ _ (c.weight_bytes.ensures.0 ∙ rw c.version_in.ensures) c.if-weight_bytes-eq0.true

pub returns : goal.returns
returns c = rw (c.byte_at-3.ensures, c.byte_at-2.ensures, c.byte_at.ensures) (some_weights _ _ (c.weight_bytes.ensures.0 ∙ rw c.version_in.ensures) c.if-weight_bytes-eq0.false)
