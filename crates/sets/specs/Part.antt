-- A loss as products: what it takes away is one or three links, or pairs of links, each with a column of masks in each dimension.
use Rattle.std.specs.Prelude.{ℕ, ◌+◌, ◌-◌, ◌*◌, ◌/◌, ◌%◌, Bool, false, cond, ◌&&◌, ◌||◌, List, get_or, ltb, eqb}
use Rattle.shape.specs.declared.shape.Shape.{Shape}
use Rattle.shape.specs.declared.shape.Coords.{Coords}
use Rattle.shape.specs.declared.shape.Dim.{Dim}
use Rattle.shape.specs.declared.shape.Dim.TheVariants.{X, Y, Z}
use Rattle.shape.specs.Shape.{extent_of, wrapped_in, coord_of}
use Rattle.machine.specs.declared.leg.Mode.{Mode}
use Rattle.rows.specs.Rows.{in_product}
use Rattle.losses.specs.Loss.{loss_at, loss_kind}
use Rattle.masks.specs.Cell.{cell}
use Rattle.masks.specs.Masks.{dim_at}

-- Kinds 0 to 8 are those of a loss. 9, 10, 11: the links of a dead node along X, Y, Z. The number of the dimension, and the column in it.
unfoldable pub kind_dim : ℕ → ℕ
kind_dim kind = cond (ltb kind 6) (kind / 2) (cond (ltb kind 9) (kind - 6) (kind - 9))

unfoldable pub kind_own : ℕ → ℕ
kind_own kind = cond (ltb kind 6) (1 + kind % 2) (cond (ltb kind 9) 4 5)

-- `dim_at` the other way round.
abbrev pub dim_number : Dim → ℕ
dim_number X = 0
dim_number Y = 1
dim_number Z = 2

-- The column in dimension number d.
unfoldable pub column : ℕ → ℕ → ℕ
column kind d = cond (eqb (kind_dim kind) d) (kind_own kind) (cond (ltb d (kind_dim kind)) 0 3)

-- The code's own form of it: four bits a kind.
unfoldable pub columns : ℕ → ℕ
columns d = cond (eqb d 0) 0x5004000021 (cond (eqb d 1) 0x53043002133 0x533433213333)

-- ---- by the masks of one end
unfoldable pub mask_in : List ℕ → ℕ → ℕ → ℕ → ℕ
mask_in ends kind d c = get_or ends (96 * d + 16 * column kind d + c) 0

-- The leg between that end and the node at c meets what is lost of this kind.
unfoldable pub part_in : List ℕ → ℕ → ℕ → Coords → Bool
part_in ends kind w c = in_product (mask_in ends kind 0 (w % 16)) (mask_in ends kind 1 (w / 16 % 16)) (mask_in ends kind 2 (w / 256 % 16)) c

unfoldable pub dead_in : List ℕ → ℕ → Coords → Bool
dead_in ends w c = part_in ends 9 w c || (part_in ends 10 w c || part_in ends 11 w c)

-- It meets the loss w.
unfoldable pub loss_in : List ℕ → ℕ → Coords → Bool
loss_in ends w c = cond (ltb (loss_kind w) 9) (part_in ends (loss_kind w) w c) (cond (eqb (loss_kind w) 9) (dead_in ends w c) false)

-- ---- dimension by dimension, of a leg from a to t
unfoldable pub cell_in : Mode → Shape → ℕ → ℕ → Coords → Coords → Coords → Bool
cell_in m s kind d u a t = cell m (extent_of s (dim_at d)) (wrapped_in s (dim_at d)) (column kind d) (coord_of u (dim_at d)) (coord_of a (dim_at d)) (coord_of t (dim_at d))

unfoldable pub cells_in : Mode → Shape → ℕ → Coords → Coords → Coords → Bool
cells_in m s kind u a t = cell_in m s kind 0 u a t && (cell_in m s kind 1 u a t && cell_in m s kind 2 u a t)

unfoldable pub dead_cells : Mode → Shape → Coords → Coords → Coords → Bool
dead_cells m s u a t = cells_in m s 9 u a t || (cells_in m s 10 u a t || cells_in m s 11 u a t)

unfoldable pub loss_cells : Mode → Shape → ℕ → Coords → Coords → Bool
loss_cells m s w a t = cond (ltb (loss_kind w) 9) (cells_in m s (loss_kind w) (loss_at w) a t) (cond (eqb (loss_kind w) 9) (dead_cells m s (loss_at w) a t) false)
