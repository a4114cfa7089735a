-- The places of a dimension, and those between two of them, as the bits of a number; and the box of two nodes.
use Rattle.std.specs.Prelude.{ℕ, ◌-◌, ◌^◌, Bool, cond, ◌&&◌, leb, ltb}
use Rattle.shape.specs.declared.shape.Shape.{Shape}
use Rattle.shape.specs.declared.shape.Coords.{Coords}
use Rattle.shape.specs.declared.shape.Dim.TheVariants.{X, Y, Z}
use Rattle.shape.specs.Shape.{wrapped_in}
use Rattle.legs.specs.Between.{between}
use Rattle.rows.specs.Bits.{row_of}
use Rattle.rows.specs.declared.product.Places.{Places}

-- All places; none of a dimension that has more than 16.
unfoldable pub full_mask : ℕ → ℕ
full_mask len = cond (leb len 16) (2 ^ len - 1) 0

-- The places between p and q; none where one of them does not exist.
unfoldable pub between_mask : ℕ → Bool → ℕ → ℕ → ℕ
between_mask len ring p q = cond (leb len 16 && (ltb p len && ltb q len)) (row_of (λ c. between len ring c p q) len) 0

-- In each dimension the places between the two.
unfoldable pub box_of : Shape → Coords → Coords → Places
box_of s a t = record {
  x = between_mask s.x (wrapped_in s X) a.x t.x;
  y = between_mask s.y (wrapped_in s Y) a.y t.y;
  z = between_mask s.z (wrapped_in s Z) a.z t.z;
}
