use mathlib.Core.Path.{◌≡◌}
use Rattle.search.proofs.Seeking.{Space}
use Rattle.search.proofs.lowest.first_via.Given as goal

abbrev pub invariant-loop-z : goal.invariant-loop-z
invariant-loop-z l = (l.z-iterator.mask ≡ l.places.z) × (l.z-iterator.len ≡ 16) × Space l.places.x l.places.y l.places.z l.from l.to l.at l.z-iterator.next
