-- The bits of a number.
use Rattle.std.specs.Prelude.{ℕ, zero, suc, ◌+◌, ◌/◌, ◌%◌, ◌^◌, Bool, cond, eqb}

unfoldable pub bit : ℕ → ℕ → Bool
bit v x = eqb (v / 2 ^ x % 2) 1

-- The number with the bits f 0 to f (n - 1).
unfoldable pub row_of : (ℕ → Bool) → ℕ → ℕ
row_of f zero = 0
row_of f (suc n) = cond (f n) (2 ^ n) 0 + row_of f n
