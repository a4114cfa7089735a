use Rattle.conversion.proofs.Halves.{odd_along}
use Rattle.conversion.proofs.half.odd_half_along.Goals as goal

pub returns : goal.returns
returns c = odd_along _ _ _ _ _ _ _ _ _ _ _ c.coord-p.ensures c.extent.ensures c.coord.ensures c.is_half-half.ensures c.wrapped.ensures c.both.ensures c.both-2.ensures
