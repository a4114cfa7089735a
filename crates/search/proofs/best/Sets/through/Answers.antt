use native.Mathlib.Omega.{arith}
use Rattle.shape.specs.declared.shape.Dim.TheVariants.{Y, Z}
use Rattle.shape.proofs.Shapes.{sound}
use Rattle.search.proofs.best.Sets.through.Goals as goal

pub least_part-low-requires : goal.least_part-low-requires
least_part-low-requires c = (sound _ c.args.self.now.ready.sound Y).high

pub bounds-zs-a : goal.bounds-zs-a
bounds-zs-a c = omega (arith, c.requires.0.z, (sound _ c.args.self.now.ready.sound Z).high)

pub bounds-ys-a : goal.bounds-ys-a
bounds-ys-a c = omega (arith, c.requires.0.y, (sound _ c.args.self.now.ready.sound Y).high)

pub bounds-zs-t : goal.bounds-zs-t
bounds-zs-t c = omega (arith, c.requires.1.z, (sound _ c.args.self.now.ready.sound Z).high)

pub bounds-ys-t : goal.bounds-ys-t
bounds-ys-t c = omega (arith, c.requires.1.y, (sound _ c.args.self.now.ready.sound Y).high)
