use Rattle.masks.specs.Cell.{passes_behind}
use Rattle.sets.proofs.cells.Run.passes_behind.Goals as goal

pub returns-in-Adaptive : goal.returns-in-Adaptive
unfolding passes_behind
returns-in-Adaptive c = rw c.in-Adaptive.is c.between.ensures

pub returns-in-Deterministic : goal.returns-in-Deterministic
unfolding passes_behind
returns-in-Deterministic c = rw c.in-Deterministic.is
