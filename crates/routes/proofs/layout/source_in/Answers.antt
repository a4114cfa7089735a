use Rattle.routes.specs.Layout.{source}
use Rattle.routes.proofs.layout.source_in.Goals as goal

pub returns : goal.returns
unfolding source
returns c = c.word_at.ensures.value
