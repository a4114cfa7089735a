-- The places near the shortest ways between two nodes.
use Rattle.std.specs.Prelude.{ℕ, ◌+◌, ◌*◌, ◌<◌, ◌≡◌, Bool, true, ltb}
use Rattle.shape.specs.declared.shape.Shape.{Shape}
use Rattle.shape.specs.declared.shape.Coords.{Coords}
use Rattle.shape.specs.Axis.{axis_hops}
use Rattle.machine.specs.Number.{Inside}
use Rattle.weights.specs.declared.weights.Weights.{Weights}
use Rattle.weights.specs.Steps.{distance_at}
use Rattle.rows.specs.Bits.{row_of}
use Rattle.rows.specs.Rows.{in_product}
use Rattle.search.specs.PartOf.{part_of}

-- In one dimension: the places by way of which the part of a length is less than `over` above the least.
unfoldable pub near_row : ℕ → ℕ → Bool → ℕ → ℕ → ℕ → ℕ
near_row weight len ring p q over = row_of (λ c. ltb (weight * part_of len ring p q c) (weight * axis_hops len ring p q + over)) len

-- Each node by way of which the length from A to T is less than `over` above their distance is in the product of the masks.
pub record NearWays (k : Weights) (s : Shape) (A T : Coords) (over bx by bz : ℕ) : Type 0 where
  pub each : (c : Coords) → Inside s c → distance_at k s A c + distance_at k s c T < distance_at k s A T + over → in_product bx by bz c ≡ true
