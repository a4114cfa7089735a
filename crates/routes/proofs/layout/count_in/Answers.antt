use Rattle.routes.specs.Layout.{entry_count}
use Rattle.routes.proofs.layout.count_in.Goals as goal

pub returns : goal.returns
unfolding entry_count
returns c = c.word_at.ensures.value
