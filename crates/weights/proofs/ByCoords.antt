-- Distance by coordinates: that of the nodes there, and within its word.
use Prim.Native.Nat.{ℕ, ◌*◌, ◌≤◌, ◌<◌}
use native.Mathlib.Omega.{arith}
use native.Mathlib.Nat.{mul-le-mul, mod-eq_of_lt}
use mathlib.Core.Path.{◌≡◌, refl}
use Rattle.shape.specs.declared.shape.Shape.{Shape}
use Rattle.shape.specs.Shape.{shape_error}
use Rattle.machine.specs.Number.{node_count, coords_of}
use Rattle.weights.specs.declared.weights.Weights.{Weights}
use Rattle.weights.specs.Weights.{weight_error}
use Rattle.weights.specs.Distance.{distance}
use Rattle.weights.specs.Steps.{distance_at, distance_word}
use Rattle.weights.proofs.Laws.{distance_most}

pub distance_at_law : (w : Weights) (s : Shape) (n t : ℕ) → distance_at w s (coords_of s n) (coords_of s t) ≡ distance w s n t
unfolding distance distance_at
distance_at_law w s n t = refl

pub distance_word_law :
    (w : Weights) → weight_error w ≡ 0 → (s : Shape) → shape_error s ≡ 0 → (n t : ℕ) → n < node_count s → t < node_count s → distance_word w s (coords_of s n) (coords_of s t) ≡ distance w s n t
unfolding distance_word
distance_word_law w hw s h n t hn ht =
    let small : distance w s n t < 65536 = omega (arith, distance_most w hw s h n t hn ht) in
    rw (distance_at_law w s n t) (mod-eq_of_lt small)

-- A byte by the hops of one dimension.
pub product_small : (a b : ℕ) → a ≤ 255 → b < 256 → a * b ≤ 65025
product_small a b h l = let most : b ≤ 255 = omega arith in mul-le-mul h most
