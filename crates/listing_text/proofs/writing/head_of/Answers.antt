use Rattle.listing_text.specs.Steps.{head_of}
use Rattle.listing_text.proofs.writing.head_of.Goals as goal

pub returns : goal.returns
unfolding head_of
returns c = rw (c.count_in.ensures, c.count.ensures, c.shape_in.ensures)
