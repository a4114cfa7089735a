-- The code's own steps: the rows of a plane.
use Rattle.std.specs.Prelude.{ℕ, ◌+◌, ◌^◌, ◌≤◌, ◌<◌, ◌≡◌, true, List, get_or}
use Rattle.std.specs.Int.Bits.{bit_and}
use Rattle.rows.specs.Bits.{bit}

-- The places of a mask that a dimension has.
pub record Clipped (len mask r : ℕ) : Type 0 where
  pub below : r < 2 ^ len
  pub keeps : (i : ℕ) → i < len → bit r i ≡ bit mask i

-- The nodes of row r that are in both sets, and in the mask along X.
abbrev pub meet : ℕ → List ℕ → List ℕ → ℕ → ℕ → ℕ
meet bx from to at r = bit_and (bit_and bx (get_or from r 0)) (get_or to (at + r) 0)

-- y is the first place of `by` whose row, from `base` on, meets them; 16 where there is none.
pub record InPlane (bx by base : ℕ) (from to : List ℕ) (at y : ℕ) : Type 0 where
  pub most : y ≤ 16
  pub listed : y < 16 → bit by y ≡ true
  pub some : y < 16 → meet bx from to at (base + y) ≡ 0 → ⊥
  pub before : (i : ℕ) → i < y → bit by i ≡ true → meet bx from to at (base + i) ≡ 0
