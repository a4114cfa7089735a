-- For one dimension, a place of a loss and one end of a leg: the set of the other ends, as the bits of a number. Of one end they are 288 numbers, of all
-- ends 4,608.
use Rattle.std.specs.Prelude.{ℕ, ◌+◌, ◌*◌, ◌/◌, ◌%◌, ◌<◌, ◌≡◌, Bool, cond, List, get_or, eqb, ltb}
use Rattle.shape.specs.declared.shape.Shape.{Shape}
use Rattle.shape.specs.declared.shape.Coords.{Coords}
use Rattle.shape.specs.declared.shape.Dim.{Dim}
use Rattle.shape.specs.declared.shape.Dim.TheVariants.{X, Y, Z}
use Rattle.shape.specs.Shape.{shape_error, extent_of, wrapped_in, coord_of}
use Rattle.machine.specs.declared.leg.Mode.{Mode}
use Rattle.machine.specs.Hop.{pick_dim}
use Rattle.rows.specs.Bits.{row_of}
use Rattle.masks.specs.Cell.{cell}

-- With the end `at` given, and x the other end: the legs from `at`, or to it.
unfoldable pub end_cell : Mode → Bool → ℕ → Bool → ℕ → ℕ → ℕ → ℕ → Bool
end_cell mode from len ring column c at x = cell mode len ring column c (cond from at x) (cond from x at)

-- 0 where the end is no place of the dimension.
unfoldable pub mask_of : Mode → Bool → ℕ → Bool → ℕ → ℕ → ℕ → ℕ
mask_of mode from len ring column c at = cond (ltb at len) (row_of (end_cell mode from len ring column c at) len) 0

abbrev pub dim_at : ℕ → Dim
dim_at n = pick_dim (eqb n 0) X (pick_dim (eqb n 1) Y Z)

-- Of one end, element i: dimension i / 96, column i % 96 / 16, place of the loss i % 16.
unfoldable pub end_at : Mode → Bool → Shape → Coords → ℕ → ℕ
end_at mode from s at i =
    let d = dim_at (i / 96) in
    mask_of mode from (extent_of s d) (wrapped_in s d) (i % 96 / 16) (i % 16) (coord_of at d)

-- All 0 of a shape that a check declines.
unfoldable pub ends_at : Mode → Bool → Shape → Coords → ℕ → ℕ
ends_at mode from s at i = cond (eqb (shape_error s) 0) (end_at mode from s at i) 0

-- Of every end, element i: dimension i / 1536, end i / 96 % 16, and the rest as above.
unfoldable pub mask_at : Mode → Bool → Shape → ℕ → ℕ
mask_at mode from s i =
    let d = dim_at (i / 1536) in
    mask_of mode from (extent_of s d) (wrapped_in s d) (i % 96 / 16) (i % 16) (i / 96 % 16)

unfoldable pub table_at : Mode → Bool → Shape → ℕ → ℕ
table_at mode from s i = cond (eqb (shape_error s) 0) (mask_at mode from s i) 0

-- The masks of one end, from the table of all.
unfoldable pub gather_at : List ℕ → Coords → ℕ → ℕ
gather_at table at i = get_or table (1536 * (i / 96) + 96 * (coord_of at (dim_at (i / 96)) % 16) + i % 96) 0

-- These are the masks of the end `at`.
abbrev pub Ended : Mode → Bool → Shape → Coords → List ℕ → Type 0
Ended mode from s at ends = (i : ℕ) → i < 288 → get_or ends i 0 ≡ ends_at mode from s at i

-- These are the masks of all ends.
abbrev pub Masked : Mode → Bool → Shape → List ℕ → Type 0
Masked mode from s table = (i : ℕ) → i < 4608 → get_or table i 0 ≡ table_at mode from s i
