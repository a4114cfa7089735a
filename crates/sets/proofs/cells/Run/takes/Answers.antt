use Rattle.masks.specs.Cell.{takes}
use Rattle.sets.proofs.cells.Run.takes.Goals as goal

pub returns-in-Adaptive : goal.returns-in-Adaptive
unfolding takes
returns-in-Adaptive c = rw c.in-Adaptive.is c.crosses.ensures

pub returns-in-Deterministic : goal.returns-in-Deterministic
unfolding takes
returns-in-Deterministic c = rw c.in-Deterministic.is c.runs.ensures
