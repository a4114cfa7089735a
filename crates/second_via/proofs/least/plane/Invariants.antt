use Prim.Native.Nat.{◌+◌, ◌*◌}
use mathlib.Core.Path.{◌≡◌}
use Rattle.search.specs.Planes.{meet}
use Rattle.second_via.specs.Nodes.{first_of, RowKeys}
use Rattle.second_via.proofs.Going.{Seeking}
use Rattle.second_via.proofs.least.plane.Given as goal

abbrev pub invariant-loop-y : goal.invariant-loop-y
invariant-loop-y l =
    (l.y-iterator.mask ≡ l.by) × (l.y-iterator.len ≡ l.shape.y) ×
    Seeking l.shape.y l.by (λ y n. RowKeys l.shape.x (meet l.bx l.from l.to l.at (16 * l.z + y)) (first_of l.shape y l.z) l.values n) l.known l.y-iterator.next l.best
