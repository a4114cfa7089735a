use Prim.Native.Nat.{◌+◌}
use mathlib.Core.Path.{◌≡◌}
use lib.ListN.{get_or}
use Rattle.second_via.specs.Nodes.{RowSumsAt}
use Rattle.second_via.proofs.Storing.{Storing}
use Rattle.second_via.proofs.reach.Made.plane.Given as goal

abbrev pub invariant-loop-y : goal.invariant-loop-y
invariant-loop-y l =
    (l.y-iterator.mask ≡ l.self.places.y) × (l.y-iterator.len ≡ l.self.shape.y) ×
    Storing l.self.shape.y l.self.places.y (λ y c. RowSumsAt l.self.shape l.self.xs.now l.self.places.x l.self.notes.now l.self.to.now l.self.at (l.part + get_or l.ys y 0) y l.z c) l.initial.sums l.y-iterator.next l.sums
