use Rattle.conversion.specs.Steps.{odd_half_of}
use Rattle.conversion.proofs.half.odd_half.Goals as goal

pub returns : goal.returns
unfolding odd_half_of
returns c = rw (c.either-2.ensures, c.either.ensures, c.odd_half_along-z.ensures, c.odd_half_along-y.ensures, c.odd_half_along-x.ensures)
