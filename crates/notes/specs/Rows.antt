-- The code's own steps: the rows of a set in a run.
use Rattle.std.specs.Prelude.{ℕ, ◌+◌, ◌≤◌, ◌<◌, ◌≡◌, ◌⊎◌, List, length, get_or}

-- The run is as it was but for n elements from place `at` on.
pub record Elsewhere (at n : ℕ) (old new : List ℕ) : Type 0 where
  pub long : length new ≡ length old
  pub other : (i : ℕ) → (i < at) ⊎ (at + n ≤ i) → get_or new i 0 ≡ get_or old i 0

-- These are the first n of the rows.
pub record Put (at : ℕ) (rows : List ℕ) (n : ℕ) (old new : List ℕ) : Type 0 where
  pub rest : Elsewhere at n old new
  pub put : (i : ℕ) → i < n → get_or new (at + i) 0 ≡ get_or rows i 0
