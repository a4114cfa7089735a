use Rattle.routes.specs.Layout.{entry_at}
use Rattle.routes.proofs.layout.entry_in.Goals as goal

pub returns : goal.returns
unfolding entry_at
returns c = rw (c.entry_by.ensures, c.format_in.ensures)
