use Rattle.masks.specs.Cell.{takes_links}
use Rattle.sets.proofs.cells.Run.takes_links.Goals as goal

pub returns : goal.returns
unfolding takes_links
returns c = rw (c.either.ensures, c.takes_link-comes.ensures, c.next_place.ensures, c.takes_link-leaves.ensures)
