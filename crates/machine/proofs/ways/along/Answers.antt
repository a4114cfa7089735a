use Rattle.machine.specs.Ways.{opens}
use Rattle.machine.proofs.ways.along.Goals as goal

pub returns-in-Adaptive : goal.returns-in-Adaptive
unfolding opens
returns-in-Adaptive c = (rw (c.pick.ensures, c.useful.ensures, c.hops-hops.ensures, c.coord-q.ensures, c.coord-p.ensures, c.axis-axis.ensures, c.in-Adaptive.is), rw (c.pick-in-Adaptive.ensures, c.useful-in-Adaptive.ensures, c.hops-hops.ensures, c.coord-q.ensures, c.coord-p.ensures, c.axis-axis.ensures, c.in-Adaptive.is))

pub returns-in-Deterministic : goal.returns-in-Deterministic
unfolding opens
returns-in-Deterministic c = (rw (c.pick-in-Deterministic.ensures, c.goes_plus-plus.ensures, c.hops-hops.ensures, c.coord-q.ensures, c.coord-p.ensures, c.axis-axis.ensures, c.in-Deterministic.is), rw (c.pick-in-Deterministic-2.ensures, c.goes_plus-plus.ensures, c.hops-hops.ensures, c.coord-q.ensures, c.coord-p.ensures, c.axis-axis.ensures, c.in-Deterministic.is))
