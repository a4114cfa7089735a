-- The least of an array's values over a set of nodes.
use Rattle.std.specs.Prelude.{ℕ, ◌≤◌, ◌<◌, ◌≡◌, Bool, true, List, get_or}

-- Of the n nodes, those that pass the test and have a value below the bound: r is the one with the least value, of equal ones the lowest; 4096 where there
-- is none.
pub record LeastAt (n : ℕ) (passes : ℕ → Bool) (values : List ℕ) (bound r : ℕ) : Type 0 where
  pub most : r ≤ 4096
  pub found : r < 4096 → (r < n) × (passes r ≡ true) × (get_or values r 0 < bound)
  pub each : (v : ℕ) → v < n → passes v ≡ true → get_or values v 0 < bound → (r < 4096) × (get_or values r 0 ≤ get_or values v 0)
  pub first : (v : ℕ) → v < n → v < r → r < 4096 → passes v ≡ true → get_or values r 0 < get_or values v 0
