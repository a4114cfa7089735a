use native.Mathlib.Omega.{arith}
use Rattle.shape.specs.declared.shape.Dim.TheVariants.{X, Y, Z}
use Rattle.shape.proofs.Shapes.{sound}
use Rattle.second_via.proofs.Keys.{first_is}
use Rattle.second_via.proofs.Sums.{sums_at}
use Rattle.second_via.proofs.reach.Made.row.Goals as goal

pub bounds-self-d : goal.bounds-self-d
bounds-self-d c = let m = c.args.self.now in omega (arith, m.room, c.requires.0, c.requires.1, (sound _ m.sound Y).high, (sound _ m.sound Z).high)

pub bounds-self-a : goal.bounds-self-a
bounds-self-a c = let m = c.args.self.now in omega (arith, m.room, c.requires.0, c.requires.1, (sound _ m.sound Y).high, (sound _ m.sound Z).high)

pub row-requires : goal.row-requires
row-requires c = let h = c.args.self.now.sound in ((sound _ h X).high, (first_is _ h _ _ _ c.requires.0 c.requires.1 c.number_at-first.ensures).fits, omega arith)

pub returns : goal.returns
returns c = sums_at _ _ _ _ _ _ c.args.self.now.xs.now _ _ _ (first_is _ c.args.self.now.sound _ _ _ c.requires.0 c.requires.1 c.number_at-first.ensures).is c.row.ensures
