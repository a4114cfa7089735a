use Rattle.sheet.specs.Head.{length_field}
use Rattle.sheet.proofs.head.length_in.Goals as goal

pub returns : goal.returns
unfolding length_field
returns c = c.word_at.ensures.value
