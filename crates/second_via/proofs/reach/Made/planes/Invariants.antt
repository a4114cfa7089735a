use mathlib.Core.Path.{◌≡◌}
use lib.ListN.{get_or}
use Rattle.second_via.specs.Nodes.{PlaneSums}
use Rattle.second_via.proofs.Storing.{Storing}
use Rattle.second_via.proofs.reach.Made.planes.Given as goal

abbrev pub invariant-loop-z : goal.invariant-loop-z
invariant-loop-z l =
    (l.z-iterator.mask ≡ l.self.places.z) × (l.z-iterator.len ≡ l.self.shape.z) ×
    Storing l.self.shape.z l.self.places.z (λ z c. PlaneSums l.self.shape l.self.xs.now l.ys l.self.places.x l.self.places.y l.self.notes.now l.self.to.now l.self.at (get_or l.zs z 0) z c) l.initial.sums l.z-iterator.next l.sums
