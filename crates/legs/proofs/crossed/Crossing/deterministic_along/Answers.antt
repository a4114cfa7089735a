use Rattle.legs.specs.Crossing.{deterministic_along}
use Rattle.legs.proofs.Dims.{same_dims, before_dims}
use Rattle.legs.proofs.crossed.Crossing.deterministic_along.Goals as goal

pub returns-then-eq : goal.returns-then-eq
unfolding deterministic_along
returns-then-eq c = rw (← c.dim_of-k.ensures, ← same_dims _ _, ← c.eq.ensures, c.if-eq.true, c.runs.ensures, c.is_plus.ensures, c.axis.ensures, c.coord-q.ensures, c.coord-p.ensures, c.coord-c.ensures)

pub returns : goal.returns
unfolding deterministic_along
returns c = rw (← c.dim_of-k.ensures, ← same_dims _ _, ← c.eq.ensures, c.if-eq.false, c.pick.ensures, c.lt.ensures, before_dims _ _, c.coord-q.ensures, c.coord-p.ensures, c.coord-c.ensures)
