use Rattle.shape.specs.declared.shape.Dim.TheVariants.{X, Y, Z}
use Rattle.shape.proofs.Shapes.{sound}
use Rattle.weights.proofs.Good.{good}
use Rattle.search.proofs.AllVias.{asks}
use Rattle.search.proofs.NearPlaces.{near_places}
use Rattle.search.proofs.near.asked.Goals as goal

pub near_along-requires : goal.near_along-requires
near_along-requires c = let a = asks _ _ _ _ _ _ c.requires in rw c.axis.ensures ((good _ a.weights X).high, (sound _ a.sound X).high, a.source.x, a.target.x)

pub near_along-requires-2 : goal.near_along-requires-2
near_along-requires-2 c = let a = asks _ _ _ _ _ _ c.requires in rw c.axis-2.ensures ((good _ a.weights Y).high, (sound _ a.sound Y).high, a.source.y, a.target.y)

pub near_along-requires-3 : goal.near_along-requires-3
near_along-requires-3 c = let a = asks _ _ _ _ _ _ c.requires in rw c.axis-3.ensures ((good _ a.weights Z).high, (sound _ a.sound Z).high, a.source.z, a.target.z)

pub returns : goal.returns
returns c = let a = asks _ _ _ _ _ _ c.requires in rw (c.near_along-3.ensures, c.axis-3.ensures, c.near_along-2.ensures, c.axis-2.ensures, c.near_along.ensures, c.axis.ensures) (near_places _ _ _ _ _ a.source a.target)
