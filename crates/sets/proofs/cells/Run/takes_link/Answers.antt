use Rattle.masks.specs.Cell.{takes_link}
use Rattle.sets.proofs.cells.Run.takes_link.Goals as goal

pub returns : goal.returns
unfolding takes_link
returns c = rw (c.either.ensures, c.both.ensures, c.takes-minus.ensures, c.next_place.ensures, c.takes-plus.ensures)
