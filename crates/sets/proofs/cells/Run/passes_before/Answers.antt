use Rattle.masks.specs.Cell.{passes_before}
use Rattle.sets.proofs.cells.Run.passes_before.Goals as goal

pub returns-in-Adaptive : goal.returns-in-Adaptive
unfolding passes_before
returns-in-Adaptive c = rw c.in-Adaptive.is c.between.ensures

pub returns-in-Deterministic : goal.returns-in-Deterministic
unfolding passes_before
returns-in-Deterministic c = rw c.in-Deterministic.is
