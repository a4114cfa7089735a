-- What a number is that is a node's.
use Prim.Native.Nat.{ℕ, ◌%◌, ◌<◌}
use mathlib.Core.Bool.{true}
use mathlib.Core.Path.{◌≡◌}
use lib.Dec.{eqb}
use borrow.Author.Tests.{ltb-true, eqb-true, eq-eqb, lt-ltb}
use Rattle.theory.proofs.Bools.{and_true}
use Rattle.shape.specs.declared.shape.Shape.{Shape}
use Rattle.shape.specs.Shape.{shape_error}
use Rattle.machine.specs.Number.{node_count, number_of, coords_of}
use Rattle.machine.specs.Hop.{neighbour}
use Rattle.machine.specs.Node.{is_node, are_pair}
use Rattle.machine.specs.ByCoords.{moved_at}
use Rattle.machine.specs.Division.{coords_by}
use Rattle.machine.proofs.Numbers.{coords_by_law}
use Rattle.machine.proofs.ByCoords.{neighbour_number}

pub record Node (s : Shape) (n : ℕ) : Type 0 where
  pub sound : shape_error s ≡ 0
  pub below : n < node_count s

pub node_of : (s : Shape) (n : ℕ) → is_node s n ≡ true → Node s n
unfolding is_node
node_of s n e = let both = and_true (eqb (shape_error s) 0) _ e in record { sound = eqb-true _ _ both.0; below = ltb-true _ _ both.1 }

pub from_of : (s : Shape) (n t : ℕ) → are_pair s n t ≡ true → Node s n
unfolding are_pair
from_of s n t e = node_of s n (and_true (is_node s n) _ e).0

pub to_of : (s : Shape) (n t : ℕ) → are_pair s n t ≡ true → Node s t
unfolding are_pair
to_of s n t e = node_of s t (and_true (is_node s n) _ e).1

pub below_node : (s : Shape) → shape_error s ≡ 0 → (n : ℕ) → n < node_count s → is_node s n ≡ true
unfolding is_node
below_node s h n k = rw (eq-eqb (shape_error s) 0 h, lt-ltb n (node_count s) k)

-- A number below the nodes of a shape that has one.
pub is_node_law : (s : Shape) (a : ℕ) → is_node s a ≡ true → (n : ℕ) → n < node_count s → is_node s n ≡ true
is_node_law s a h n k = below_node s (node_of s a h).sound n k

-- What the code finds by coordinates.
pub coords_node : (s : Shape) (n : ℕ) → is_node s n ≡ true → coords_by s n ≡ coords_of s n
coords_node s n e = let k = node_of s n e in coords_by_law s k.sound n k.below

pub neighbour_node : (s : Shape) (n dir : ℕ) → is_node s n ≡ true → number_of s (moved_at s (coords_of s n) dir) % 65536 ≡ neighbour s n dir
neighbour_node s n dir e = let k = node_of s n e in neighbour_number s k.sound n k.below dir
