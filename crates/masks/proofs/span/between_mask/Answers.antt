use mathlib.Core.Path.{◌∙◌}
use Rattle.masks.proofs.Spans.{too_long, no_start, no_end, both_ends}
use Rattle.masks.proofs.span.between_mask.Goals.{then-axis-gt16-via-then-axis-gt16, then-axis-gt16-via-else-axis-gt16+then-axis-p, then-axis-gt16-via-else-axis-gt16+else-axis-p+then-axis-q}
use Rattle.masks.proofs.span.between_mask.Goals as goal

pub returns-then-axis-gt16 : goal.returns-then-axis-gt16
returns-then-axis-gt16 c = elim c.then-axis-gt16.branch [
  | then-axis-gt16-via-then-axis-gt16 w ↦ too_long _ _ _ _ w.if-axis-gt16.true
  | then-axis-gt16-via-else-axis-gt16+then-axis-p w ↦ no_start _ _ _ _ w.if-axis-p.true
  | then-axis-gt16-via-else-axis-gt16+else-axis-p+then-axis-q w ↦ no_end _ _ _ _ w.if-axis-q.true
]

pub returns-then-axis : goal.returns-then-axis
returns-then-axis c = both_ends _ _ _ _ _ c.if-axis-gt16.false c.if-axis-p.false c.if-axis-q.false (c.ring_span.ensures ∙ rw c.if-axis.true)

pub returns-else-axis : goal.returns-else-axis
returns-else-axis c = both_ends _ _ _ _ _ c.if-axis-gt16.false c.if-axis-p.false c.if-axis-q.false (c.open_span.ensures ∙ rw c.if-axis.false)
