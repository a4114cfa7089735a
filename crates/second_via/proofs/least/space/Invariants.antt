use mathlib.Core.Path.{◌≡◌}
use Rattle.second_via.specs.Nodes.{PlaneKeys}
use Rattle.second_via.proofs.Going.{Seeking}
use Rattle.second_via.proofs.least.space.Given as goal

abbrev pub invariant-loop-z : goal.invariant-loop-z
invariant-loop-z l =
    (l.z-iterator.mask ≡ l.places.z) × (l.z-iterator.len ≡ l.shape.z) ×
    Seeking l.shape.z l.places.z (λ z n. PlaneKeys l.shape l.places.x l.places.y l.from l.to l.at l.values z n) l.known l.z-iterator.next l.best
