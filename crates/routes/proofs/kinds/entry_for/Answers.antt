use Rattle.routes.specs.Said.{entry_for, heard}
use Rattle.routes.proofs.kinds.entry_for.Goals as goal

pub returns-in-Given : goal.returns-in-Given
unfolding heard
returns-in-Given c = rw c.in-Given.is c.entry_with.ensures

pub returns-in-Refused : goal.returns-in-Refused
unfolding entry_for heard
returns-in-Refused c = rw (c.in-Refused.is, c.refused_kind.ensures)
