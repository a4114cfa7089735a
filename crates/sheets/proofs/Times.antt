-- The time that is left is a number of the code's.
use Prim.Native.Nat.{ℕ, ◌*◌, ◌/◌, ◌≤◌}
use native.Mathlib.Nat.{mul-le-mul, div-le_self}
use native.Mathlib.Omega.{arith}

module _ (spent boards done : ℕ) (h : spent ≤ 1000000000000) (k : boards ≤ 65535) where
  pub product_fits : spent * boards ≤ 65535000000000000
  product_fits = mul-le-mul h k

  pub quotient_fits : spent * boards / done / 1000 ≤ 65535000000000000
  quotient_fits = omega (arith, product_fits, div-le_self (spent * boards) done, div-le_self (spent * boards / done) 1000)
