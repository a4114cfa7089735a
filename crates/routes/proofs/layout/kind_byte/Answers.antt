use Rattle.routes.specs.Layout.{kind_byte}
use Rattle.routes.proofs.layout.kind_byte.Goals as goal

pub returns : goal.returns
unfolding kind_byte
returns c = rw (c.byte_at.ensures, c.entry_place.ensures.value)
