use mathlib.Core.Path.{◌≡◌}
use Rattle.search.proofs.Seeking.{Plane}
use Rattle.search.proofs.lowest.in_plane.Given as goal

abbrev pub invariant-loop-y : goal.invariant-loop-y
invariant-loop-y l = (l.y-iterator.mask ≡ l.by) × (l.y-iterator.len ≡ 16) × Plane l.bx l.by l.base l.from l.to l.at l.y-iterator.next
