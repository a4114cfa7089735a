use Rattle.search.specs.RowNumber.{Lowers, PlaneHas}
use Rattle.search.proofs.best.Sets.plane.Given as goal

abbrev pub invariant-loop-y : goal.invariant-loop-y
invariant-loop-y l = Lowers l.known l.best (PlaneHas l.self.shape l.self.weight l.self.xs.now l.ys l.part l.self.from.adaptive.now l.self.from.deterministic.now l.self.to.now l.self.at l.y l.z)
