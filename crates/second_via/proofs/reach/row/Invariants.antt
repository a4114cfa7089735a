use Prim.Native.Nat.{◌+◌}
use mathlib.Core.Path.{◌≡◌}
use lib.ListN.{get_or}
use Rattle.rows.specs.Bits.{bit}
use Rattle.second_via.specs.Nodes.{SumAt}
use Rattle.second_via.proofs.Storing.{Storing}
use Rattle.second_via.proofs.reach.row.Given as goal

abbrev pub invariant-loop-x : goal.invariant-loop-x
invariant-loop-x l =
    (l.x-iterator.mask ≡ l.word) × (l.x-iterator.len ≡ l.len) ×
    Storing l.len l.word (λ x c. SumAt l.notes (l.part + get_or l.xs x 0) (l.first + x) (bit l.adaptive x) c) l.initial.sums l.x-iterator.next l.sums
