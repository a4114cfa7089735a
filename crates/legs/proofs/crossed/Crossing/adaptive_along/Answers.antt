use Rattle.legs.specs.Crossing.{adaptive_along}
use Rattle.legs.proofs.Dims.{same_dims}
use Rattle.legs.proofs.crossed.Crossing.adaptive_along.Goals as goal

pub returns-then-eq : goal.returns-then-eq
unfolding adaptive_along
returns-then-eq c = rw (← same_dims _ _, ← c.dim_of.ensures, ← c.eq.ensures, c.if-eq.true, c.crosses.ensures, c.is_plus.ensures, c.coord-q.ensures, c.coord-p.ensures, c.coord-c.ensures, c.axis-axis.ensures)

pub returns : goal.returns
unfolding adaptive_along
returns c = rw (← c.dim_of.ensures, ← same_dims _ _, ← c.eq.ensures, c.if-eq.false, c.between.ensures, c.coord-q.ensures, c.coord-p.ensures, c.coord-c.ensures, c.axis-axis.ensures)
