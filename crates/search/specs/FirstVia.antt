-- The lowest node of a product of masks that is in two sets.
use Rattle.std.specs.Prelude.{ℕ, ◌+◌, ◌≤◌, ◌<◌, ◌≡◌, Bool, true, false, ◌&&◌, List, leb, eqb, length}
use Rattle.shape.specs.declared.shape.Shape.{Shape}
use Rattle.shape.specs.Shape.{shape_error}
use Rattle.machine.specs.Number.{coords_of}
use Rattle.rows.specs.Rows.{in_set, in_product}

-- A run of this length has n rows from place `at` on.
unfoldable pub has_rows : ℕ → ℕ → ℕ → Bool
has_rows len at n = leb (at + n) len

-- Node v is in the product of the masks, in the set `from`, and in the set whose rows begin at place `at` of the run `to`.
unfoldable pub in_all : Shape → ℕ → ℕ → ℕ → List ℕ → List ℕ → ℕ → ℕ → Bool
in_all s bx by bz from to at v = in_product bx by bz (coords_of s v) && (in_set s from 0 v && in_set s to at v)

-- A run that is too short for the rows has no set there; a shape that a check declines has no node.
unfoldable pub is_via : Shape → ℕ → ℕ → ℕ → List ℕ → List ℕ → ℕ → ℕ → Bool
is_via s bx by bz from to at v = (eqb (shape_error s) 0 && has_rows (length to) at 256) && in_all s bx by bz from to at v

-- The lowest of n nodes that passes a test; 4096 where none does.
pub record FirstOf (n : ℕ) (passes : ℕ → Bool) (r : ℕ) : Type 0 where
  pub most : r ≤ 4096
  pub found : r < 4096 → (r < n) × (passes r ≡ true)
  pub before : (v : ℕ) → v < n → v < r → passes v ≡ false
