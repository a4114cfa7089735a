use native.Mathlib.Omega.{arith}
use Rattle.shape.specs.declared.shape.Dim.TheVariants.{Y, Z}
use Rattle.shape.proofs.Shapes.{sound}
use Rattle.search.proofs.RowLaws.{row_far}
use Rattle.search.proofs.PlaneLaws.{row_starts}
use Rattle.search.proofs.best.Sets.row.Goals as goal

pub returns-then-best-base : goal.returns-then-best-base
returns-then-best-base c = let h = c.args.self.now.ready in row_far _ _ _ _ _ _ _ _ _ _ h.weight.0 c.requires.2 h.none (rw (← c.weighed.ensures.0) c.if-best-base.true)

pub bounds-self-r : goal.bounds-self-r
bounds-self-r c = let h = c.args.self.now.ready in omega (arith, c.requires.0, c.requires.1, (sound _ h.sound Y).high, (sound _ h.sound Z).high)

pub bounds-self-r-2 : goal.bounds-self-r-2
bounds-self-r-2 c = let h = c.args.self.now.ready in omega (arith, c.requires.0, c.requires.1, (sound _ h.sound Y).high, (sound _ h.sound Z).high)

pub bounds-self-self : goal.bounds-self-self
bounds-self-self c = let h = c.args.self.now.ready in omega (arith, h.run, c.requires.0, c.requires.1, (sound _ h.sound Y).high, (sound _ h.sound Z).high)

pub bounds-self-self-2 : goal.bounds-self-self-2
bounds-self-self-2 c = let h = c.args.self.now.ready in omega (arith, h.run, c.requires.0, c.requires.1, (sound _ h.sound Y).high, (sound _ h.sound Z).high)

pub returns : goal.returns
returns c = row_starts c.args.self.now.shape _ _ _ c.args.self.now.from.adaptive.now c.args.self.now.from.deterministic.now c.args.self.now.to.now c.args.self.now.at c.args.y c.args.z _ _ _ c.row_start-first.ensures c.row.ensures
