-- The code's own steps: the least number row by row.
use Rattle.std.specs.Prelude.{ℕ, ◌+◌, ◌*◌, ◌≤◌, ◌<◌, ◌≡◌, ◌⊎◌, true, List, length, get_or}
use Rattle.std.specs.Int.Bits.{bit_and}
use Rattle.shape.specs.declared.shape.Shape.{Shape}
use Rattle.shape.specs.Shape.{shape_error}
use Rattle.rows.specs.Bits.{bit}
use Rattle.search.specs.Number.{dets_place, node_place, det_of, via_number}

-- r is the least of `best` and the numbers that P has.
pub record Lowers (best r : ℕ) (P : ℕ → Type 0) : Type 0 where
  pub low : r ≤ best
  pub each : (n : ℕ) → P n → r ≤ n
  pub one : (r ≡ best) ⊎ P r

-- xs: at k the places along X that make k hops of the way. The first level, from `least` on, that has a place of the set; 32 where there is none.
pub record LevelOf (set : ℕ) (xs : List ℕ) (least k : ℕ) : Type 0 where
  pub most : k ≤ 32
  pub before : (i : ℕ) → least ≤ i → i < k → bit_and set (get_or xs i 0) ≡ 0
  pub some : k < 32 → bit_and set (get_or xs k 0) ≡ 0 → ⊥

-- What the place x adds to a number, of its own: by its modes and where it is.
unfoldable pub place_part : ℕ → ℕ → ℕ → ℕ
place_part a1 a2 x = (det_of (bit a1 x) + det_of (bit a2 x)) * dets_place + (x * node_place + det_of (bit a1 x))

pub record PlaceOf (set a1 a2 r : ℕ) : Type 0 where
  pub x : ℕ
  pub at : bit set x ≡ true
  pub is : r ≡ place_part a1 a2 x

-- The least of the places of a set.
pub record LeastPlace (set a1 a2 r : ℕ) : Type 0 where
  pub most : r < 49152
  pub each : (x : ℕ) → bit set x ≡ true → r ≤ place_part a1 a2 x
  pub one : PlaceOf set a1 a2 r

-- The number of a via of one row. wx: the weight of X. base: what the other dimensions make of its length. first: the number of the row's first node.
pub record RowHas (wx : ℕ) (xs : List ℕ) (base first a1 d1 a2 d2 n : ℕ) : Type 0 where
  pub x : ℕ
  pub k : ℕ
  pub small : k < 32
  pub at : bit (get_or xs k 0) x ≡ true
  pub is : n ≡ via_number (base + wx * k) (x + first) (bit a1 x) (bit d1 x) (bit a2 x) (bit d2 x)

-- Of one row at y, z.
abbrev pub RowAt : Shape → ℕ → List ℕ → ℕ → List ℕ → List ℕ → List ℕ → ℕ → ℕ → ℕ → ℕ → Type 0
RowAt s wx xs base fa fd to at y z n =
    RowHas wx xs base (s.x * (y + s.y * z)) (get_or fa (16 * z + y) 0) (get_or fd (16 * z + y) 0) (get_or to (at + (16 * z + y)) 0) (get_or to (at + (16 * z + y) + 256) 0) n

-- Of the rows below y0 of a plane, whose own part of the length is `part`.
pub record PlaneHas (s : Shape) (wx : ℕ) (xs ys : List ℕ) (part : ℕ) (fa fd to : List ℕ) (at y0 z n : ℕ) : Type 0 where
  pub y : ℕ
  pub below : y < y0
  pub row : RowAt s wx xs (part + get_or ys y 0) fa fd to at y z n

-- Of the planes below z0.
pub record SpaceHas (s : Shape) (wx : ℕ) (xs ys zs fa fd to : List ℕ) (at z0 n : ℕ) : Type 0 where
  pub z : ℕ
  pub below : z < z0
  pub plane : PlaneHas s wx xs ys (get_or zs z 0) fa fd to at s.y z n

-- What the loops rest on: the weight of X is one, and no level below `least` has a place.
pub record Ready (s : Shape) (wx : ℕ) (xs : List ℕ) (least : ℕ) (to : List ℕ) (at : ℕ) : Type 0 where
  pub sound : shape_error s ≡ 0
  pub weight : (1 ≤ wx) × (wx ≤ 8)
  pub none : (k : ℕ) → k < least → get_or xs k 0 ≡ 0
  pub run : at + 512 ≤ length to
