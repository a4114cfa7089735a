use Rattle.search.specs.RowNumber.{Lowers, SpaceHas}
use Rattle.search.proofs.best.Sets.planes.Given as goal

abbrev pub invariant-loop-z : goal.invariant-loop-z
invariant-loop-z l = Lowers l.known l.best (SpaceHas l.self.shape l.self.weight l.self.xs.now l.ys l.zs l.self.from.adaptive.now l.self.from.deterministic.now l.self.to.now l.self.at l.z)
