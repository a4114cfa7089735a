-- The least number of all vias of a pair, in four sets of clear legs.
use Rattle.std.specs.Prelude.{ℕ, ◌+◌, ◌≤◌, ◌<◌, ◌≡◌, ◌⊎◌, Bool, cond, ◌&&◌, List, ltb, eqb, length}
use Rattle.shape.specs.declared.shape.Shape.{Shape}
use Rattle.shape.specs.declared.shape.Coords.{Coords}
use Rattle.shape.specs.Shape.{shape_error}
use Rattle.machine.specs.Number.{coords_of}
use Rattle.weights.specs.declared.weights.Weights.{Weights}
use Rattle.weights.specs.Weights.{weight_error}
use Rattle.weights.specs.Steps.{distance_at}
use Rattle.rows.specs.Rows.{in_set}
use Rattle.search.specs.FirstVia.{has_rows}
use Rattle.search.specs.Number.{unclear, via_number}

-- Coordinates of a node of the shape.
unfoldable pub within : Shape → Coords → Bool
within s c = ltb c.x s.x && (ltb c.y s.y && ltb c.z s.z)

-- No check declines the weights or the shape, it has both nodes, and the run has both sets.
unfoldable pub askable : Weights → Shape → Coords → Coords → ℕ → ℕ → Bool
askable w s S D len at = (eqb (weight_error w) 0 && eqb (shape_error s) 0) && ((within s S && within s D) && has_rows len at 512)

-- The number of the via v. The nodes with a clear leg from S: adaptive fa, deterministic fd. The nodes with a clear leg to D: adaptive the set whose rows
-- begin at place `at` of the run `to`, deterministic the one behind it.
unfoldable pub number_in : Weights → Shape → Coords → Coords → List ℕ → List ℕ → List ℕ → ℕ → ℕ → ℕ
number_in w s S D fa fd to at v =
    cond (askable w s S D (length to) at)
    (via_number (distance_at w s S (coords_of s v) + distance_at w s (coords_of s v) D) v (in_set s fa 0 v) (in_set s fd 0 v) (in_set s to at v) (in_set s to (at + 256) v))
    unclear

-- The number r is that of one of n vias.
pub record NumberOf (n : ℕ) (number : ℕ → ℕ) (r : ℕ) : Type 0 where
  pub v : ℕ
  pub below : v < n
  pub is : r ≡ number v

-- The least number of n vias; `unclear` where none has a lower one.
pub record LeastOf (n : ℕ) (number : ℕ → ℕ) (r : ℕ) : Type 0 where
  pub most : r ≤ unclear
  pub each : (v : ℕ) → v < n → r ≤ number v
  pub one : (r ≡ unclear) ⊎ NumberOf n number r
