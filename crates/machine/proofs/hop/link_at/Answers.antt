use Rattle.machine.specs.ByCoords.{link_at}
use Rattle.machine.proofs.hop.link_at.Goals as goal

pub returns : goal.returns
unfolding link_at
returns c = rw (c.both.ensures, c.has_link-link.ensures, c.is_plus.ensures, c.coord.ensures, c.axis.ensures, c.dim_of-d.ensures)
