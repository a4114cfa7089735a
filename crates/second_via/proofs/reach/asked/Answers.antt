use Rattle.search.proofs.AllVias.{asks}
use Rattle.second_via.proofs.Sums.{reached}
use Rattle.second_via.proofs.reach.asked.Goals as goal

pub invariant_of-made : goal.invariant_of-made
invariant_of-made c = let a = asks _ _ _ _ _ _ c.requires in record { sound = a.sound; room = a.run }

pub returns : goal.returns
returns c = reached _ _ _ _ _ _ _ _ _ _ c.requires _ _ _ _ _ _ c.axis.ensures c.axis-2.ensures c.axis-3.ensures c.parts_along-xs.ensures c.parts_along-ys.ensures c.parts_along-zs.ensures _ _ c.planes.ensures
