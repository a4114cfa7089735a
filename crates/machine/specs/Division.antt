-- The code's own steps: quotient and remainder by subtraction, and coordinates by two of them. Of any number; those of a node are `coords_of`.
use Rattle.std.specs.Prelude.{ℕ, ◌+◌, ◌-◌, ◌*◌, ◌/◌, ◌%◌, ◌≤◌, ◌<◌, ◌≡◌, cond, ltb}
use Rattle.shape.specs.declared.shape.Shape.{Shape}
use Rattle.shape.specs.declared.shape.Coords.{Coords}

-- The quotient below 16; 15 where there is none.
unfoldable pub times : ℕ → ℕ → ℕ
times n d = cond (ltb n (16 * d)) (n / d) 15

unfoldable pub rest : ℕ → ℕ → ℕ
rest n d = n - times n d * d

-- Of n the divisor was taken away t times, and r is left: less than m times the divisor, where the quotient is below 16.
pub record Left (n d m t r : ℕ) : Type 0 where
  pub is : n ≡ t * d + r
  pub few : t + m ≤ 16
  pub low : n < 16 * d → r < m * d
  pub high : 16 * d ≤ n → t + m ≡ 16

-- The plane and then the row.
unfoldable pub coords_by : Shape → ℕ → Coords
coords_by s n =
    let r = rest n (s.x * s.y) in
    record { x = rest r s.x % 256; y = times r s.x; z = times n (s.x * s.y) }
