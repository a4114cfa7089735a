-- Weights that check 16 accepts.
use Prim.Native.Nat.{ℕ, ◌≤◌}
use mathlib.Core.Path.{◌≡◌}
use mathlib.Core.Bool.{false}
use lib.Dec.{ltb}
use borrow.Author.Tests.{ltb-false}
use Rattle.numbers.specs.Numbers.{weight_outside}
use Rattle.theory.specs.Checks.{declined}
use Rattle.theory.proofs.Bools.{or_false}
use Rattle.theory.proofs.Checks.{then_zero, declined_zero}
use Rattle.shape.specs.declared.shape.Dim.{Dim}
use Rattle.shape.specs.declared.shape.Dim.TheVariants.{X, Y, Z}
use Rattle.weights.specs.declared.weights.Weights.{Weights}
use Rattle.weights.specs.Weights.{weight_of, bad_weight, bad_weights, weight_error}

-- One of them.
pub record Weight (n : ℕ) : Type 0 where
  pub low : 1 ≤ n
  pub high : n ≤ 8

weight : (n : ℕ) → bad_weight n ≡ false → Weight n
weight n e = let out = or_false (ltb n 1) (ltb 8 n) e in record { low = ltb-false n 1 out.0; high = ltb-false 8 n out.1 }

each : (w : Weights) → bad_weights w ≡ false → (d : Dim) → bad_weight (weight_of w d) ≡ false
unfolding bad_weights
each w e X = (or_false (bad_weight w.x) _ e).0
each w e Y = (or_false (bad_weight w.y) _ (or_false (bad_weight w.x) _ e).1).0
each w e Z = (or_false (bad_weight w.y) _ (or_false (bad_weight w.x) _ e).1).1

pub good : (w : Weights) → weight_error w ≡ 0 → (d : Dim) → Weight (weight_of w d)
unfolding weight_error
good w h d = weight (weight_of w d) (each w (declined_zero (bad_weights w) _ (then_zero (declined (bad_weights w) weight_outside) 0 h).0) d)
