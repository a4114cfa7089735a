-- The code's own steps: a product taken away plane by plane.
use Rattle.std.specs.Prelude.{ℕ, ◌-◌, ◌/◌, ◌%◌, ◌≤◌, ◌<◌, ◌≡◌, Bool, cond, not, ◌&&◌, List, eqb, ltb, get_or}
use Rattle.rows.specs.Bits.{bit}
use Rattle.rows.specs.Product.{Less, product}

-- What is kept of row j of a plane: all but x where y has the row's bit.
unfoldable pub kept_row : ℕ → ℕ → ℕ → ℕ
kept_row x y j = cond (bit y j) (65535 - x) 65535

-- In the rows below j of plane k, what `plane` does not keep.
unfoldable pub plane_to : List ℕ → ℕ → ℕ → ℕ → ℕ → Bool
plane_to plane k j r x = (eqb (r / 16) k && ltb (r % 16) j) && not (bit (get_or plane (r % 16) 0) x)

unfoldable pub plane_if : Bool → List ℕ → ℕ → ℕ → ℕ → Bool
plane_if b plane k r x = b && plane_to plane k 16 r x

-- The planes below k of a product.
unfoldable pub product_to : ℕ → ℕ → ℕ → ℕ → ℕ → ℕ → Bool
product_to bx by bz k r x = ltb (r / 16) k && product bx by bz r x

-- The rows `new` are the rows `old` less the planes below k of a product, where `kept` has what is kept of a plane.
pub record Producing (bx by bz : ℕ) (kept old new : List ℕ) (k : ℕ) : Type 0 where
  pub small : bx < 65536
  pub most : k ≤ 16
  pub plane : (j : ℕ) → j < 16 → get_or kept j 0 ≡ kept_row bx by j
  pub less : Less (product_to bx by bz k) old new
