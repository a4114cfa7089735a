use Rattle.dead.specs.Dead.{names_link}
use Rattle.dead.proofs.names.names_link.Goals as goal

pub returns : goal.returns
unfolding names_link
returns c = rw (c.both.ensures, c.either.ensures, c.is_link.ensures, c.both-back.ensures, c.opposite.ensures, c.both-there.ensures, c.dir-plus.ensures.value)
