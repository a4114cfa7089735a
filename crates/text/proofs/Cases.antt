-- Cases: two numbers in one order or the other; a test.
use Prim.Native.Nat.{ℕ, ◌≤◌}
use mathlib.Core.Bool.{Bool, true, false}
use mathlib.Core.Path.{◌≡◌, refl}
use lib.Dec.{leb}
use native.Mathlib.Omega.{arith}
use borrow.Author.Tests.{leb-true, leb-false}

pub split_le : {P : Type 0} (m n : ℕ) → (m ≤ n → P) → (n ≤ m → P) → P
split_le {P} m n f g = go (leb m n) refl
  where
    go : (b : Bool) → leb m n ≡ b → P
    go true e = f (leb-true m n e)
    go false e = g (omega (arith, leb-false m n e))

pub test : {P : Type 0} (b : Bool) → (b ≡ true → P) → (b ≡ false → P) → P
test true f g = f refl
test false f g = g refl
