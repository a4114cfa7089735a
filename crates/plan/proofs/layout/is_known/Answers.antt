use Rattle.plan.specs.Layout.{layout_of}
use Rattle.plan.proofs.layout.is_known.Goals as goal

pub returns : goal.returns
unfolding layout_of
returns c = c.either.ensures
