use Rattle.masks.specs.Span.{box_of}
use Rattle.masks.proofs.span.box_of.Goals as goal

pub returns : goal.returns
unfolding box_of
returns c = rw (c.between_mask-3.ensures, c.axis-3.ensures, c.between_mask-2.ensures, c.axis-2.ensures, c.between_mask.ensures, c.axis.ensures)
