use native.Mathlib.Omega.{arith}
use Rattle.shape.specs.declared.shape.Dim.TheVariants.{Z}
use Rattle.shape.proofs.Shapes.{sound}
use Rattle.search.proofs.PlaneLaws.{planes_on, planes_end}
use Rattle.search.proofs.best.Sets.planes.Goals as goal

pub bounds-zs-z : goal.bounds-zs-z
bounds-zs-z c = omega (arith, c.loop-z-test.true, (sound _ c.args.self.now.ready.sound Z).high)

pub loop-z-preserved : goal.loop-z-preserved
loop-z-preserved c = planes_on _ _ _ _ _ _ _ _ _ _ _ _ _ c.loop-z.invariant c.plane-best.ensures

pub returns : goal.returns
returns c = planes_end _ _ _ _ _ _ _ _ _ _ _ _ (omega arith) (omega arith) c.loop-z.invariant
