use Prim.Native.Nat.{◌+◌}
use mathlib.Core.Path.{◌≡◌}
use Rattle.second_via.specs.Nodes.{key_of}
use Rattle.second_via.proofs.Going.{Seeking}
use Rattle.second_via.proofs.least.row.Given as goal

abbrev pub invariant-loop-x : goal.invariant-loop-x
invariant-loop-x l = (l.x-iterator.mask ≡ l.word) × (l.x-iterator.len ≡ l.len) × Seeking l.len l.word (λ x n. n ≡ key_of l.values (l.first + x)) l.known l.x-iterator.next l.best
