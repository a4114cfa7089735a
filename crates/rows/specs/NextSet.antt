-- The lowest bit set at or after a place.
use Rattle.std.specs.Prelude.{ℕ, ◌≤◌, ◌<◌, ◌≡◌, true, false}
use Rattle.rows.specs.Bits.{bit}

-- r is the lowest bit of the mask that is set at or after x; 16 where there is none.
pub record NextSet (mask x r : ℕ) : Type 0 where
  pub most : r ≤ 16
  pub skip : (i : ℕ) → x ≤ i → i < r → bit mask i ≡ false
  pub set : r < 16 → (x ≤ r) × (bit mask r ≡ true)
