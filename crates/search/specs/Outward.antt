-- The code's own steps: the nodes in an order in which those on the shortest ways from A to a node come before it.
use Rattle.std.specs.Prelude.{ℕ, ◌+◌, ◌*◌, Bool, eqb}
use Rattle.shape.specs.declared.shape.Shape.{Shape}
use Rattle.shape.specs.declared.shape.Coords.{Coords}
use Rattle.shape.specs.declared.shape.Dim.TheVariants.{X, Y, Z}
use Rattle.shape.specs.Shape.{wrapped_in}
use Rattle.shape.specs.Axis.{axis_hops}
use Rattle.rows.specs.Bits.{row_of}

-- The places of a dimension at k hops from p.
unfoldable pub hops_row : ℕ → Bool → ℕ → ℕ → ℕ
hops_row len ring p k = row_of (λ c. eqb (axis_hops len ring p c) k) len

-- By the hops from A in Y and Z, then row by row, by the hops in X, then by X.
abbrev pub rank_at : ℕ → ℕ → ℕ → ℕ → ℕ → ℕ
rank_at r y z k x = 65536 * r + 256 * (y + 16 * z) + 16 * k + x

abbrev pub row_hops : Shape → Coords → ℕ → ℕ → ℕ
row_hops s A y z = axis_hops s.y (wrapped_in s Y) A.y y + axis_hops s.z (wrapped_in s Z) A.z z

abbrev pub place_hops : Shape → Coords → ℕ → ℕ
place_hops s A x = axis_hops s.x (wrapped_in s X) A.x x

unfoldable pub rank_of : Shape → Coords → Coords → ℕ
rank_of s A c = rank_at (row_hops s A c.y c.z) c.y c.z (place_hops s A c.x) c.x
