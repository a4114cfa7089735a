use native.Mathlib.Omega.{arith}
use Rattle.shape.specs.declared.shape.Dim.TheVariants.{Y}
use Rattle.shape.proofs.Shapes.{sound}
use Rattle.search.proofs.PlaneLaws.{plane_far, rows_on, rows_end}
use Rattle.search.proofs.best.Sets.plane.Goals as goal

pub returns-then-best-part : goal.returns-then-best-part
returns-then-best-part c = plane_far _ _ _ _ _ _ _ _ _ _ _ _ _ c.args.self.now.ready c.requires.z_lt_z.1 c.requires.by_index (rw (← c.weighed.ensures.0) c.if-best-part.true)

pub bounds-ys-y : goal.bounds-ys-y
bounds-ys-y c = omega (arith, c.loop-y-test.true, (sound _ c.args.self.now.ready.sound Y).high)

pub loop-y-preserved : goal.loop-y-preserved
loop-y-preserved c = rows_on _ _ _ _ _ _ _ _ _ _ _ _ _ _ c.loop-y.invariant c.row-best.ensures

pub returns : goal.returns
returns c = rows_end _ _ _ _ _ _ _ _ _ _ _ _ _ (omega arith) (omega arith) c.loop-y.invariant
