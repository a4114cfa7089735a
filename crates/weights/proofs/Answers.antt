-- What is answered of the distance of two nodes.
use Prim.Native.Nat.{ℕ, ◌≤◌}
use mathlib.Core.Path.{◌≡◌}
use mathlib.Core.Bool.{true}
use lib.Dec.{eqb}
use borrow.Author.Tests.{eqb-true}
use Rattle.theory.proofs.Bools.{and_true}
use Rattle.shape.specs.declared.shape.Shape.{Shape}
use Rattle.machine.specs.Node.{is_node, are_pair, coords_answer}
use Rattle.machine.proofs.Nodes.{from_of, to_of}
use Rattle.weights.specs.declared.weights.Weights.{Weights}
use Rattle.weights.specs.Weights.{weight_error}
use Rattle.weights.specs.Distance.{distance}
use Rattle.weights.specs.Steps.{distance_word}
use Rattle.weights.proofs.Laws.{distance_most}
use Rattle.weights.proofs.ByCoords.{distance_word_law}

module _ (w : Weights) (s : Shape) (n t : ℕ) where
  both_nodes : are_pair s n t ≡ true → (is_node s n ≡ true) × (is_node s t ≡ true)
  unfolding are_pair
  both_nodes pair = and_true (is_node s n) (is_node s t) pair

  pub distance_pair : eqb (weight_error w) 0 ≡ true → are_pair s n t ≡ true → distance_word w s (coords_answer s n) (coords_answer s t) ≡ distance w s n t
  distance_pair e pair =
      let from = from_of s n t pair in
      let to = to_of s n t pair in
      let both = both_nodes pair in
      rw (both.0, both.1) (distance_word_law w (eqb-true (weight_error w) 0 e) s from.sound n t from.below to.below)

  pub distance_small : eqb (weight_error w) 0 ≡ true → are_pair s n t ≡ true → distance w s n t ≤ 360
  distance_small e pair =
      let from = from_of s n t pair in
      distance_most w (eqb-true (weight_error w) 0 e) s from.sound n t from.below (to_of s n t pair).below
