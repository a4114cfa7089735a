-- The code's own steps: sets of nodes row by row, and what is made of them.
use Rattle.std.specs.Prelude.{ℕ, ◌+◌, ◌*◌, ◌<◌, ◌≡◌, ◌⊎◌, Bool, true, cond, List, ltb, length, get_or}
use Rattle.std.specs.Int.Bits.{bit_and}
use Rattle.shape.specs.declared.shape.Shape.{Shape}
use Rattle.rows.specs.Bits.{bit}
use Rattle.search.specs.Number.{unclear, det_of}
use Rattle.search.specs.Planes.{meet}

-- What the places of a dimension have, of those below `top` that are listed; `at` is what one place has.
pub record Some {A : Type 0} (len : ℕ) (listed : ℕ → Bool) (at : ℕ → A → Type 0) (top : ℕ) (a : A) : Type 0 where
  pub i : ℕ
  pub below : i < top
  pub inside : i < len
  pub is : listed i ≡ true
  pub has : at i a

abbrev pub All : {A : Type 0} → ℕ → (ℕ → Bool) → (ℕ → A → Type 0) → A → Type 0
All len listed at a = Some len listed at len a

-- The number of a row's first node.
abbrev pub first_of : Shape → ℕ → ℕ → ℕ
first_of s y z = s.x * (y + s.y * z)

-- ---- values
-- A node's value and the node as one number: the least number is that of the least value, and of equal values that of the lowest node.
unfoldable pub key_of : List ℕ → ℕ → ℕ
key_of values v = get_or values v 0 * 4096 + v

-- The numbers of the nodes of a row, of a plane and of all planes.
abbrev pub RowKeys : ℕ → ℕ → ℕ → List ℕ → ℕ → Type 0
RowKeys len word first values n = All len (bit word) (λ x n. n ≡ key_of values (first + x)) n

abbrev pub PlaneKeys : Shape → ℕ → ℕ → List ℕ → List ℕ → ℕ → List ℕ → ℕ → ℕ → Type 0
PlaneKeys s bx by from to at values z n = All s.y (bit by) (λ y n. RowKeys s.x (meet bx from to at (16 * z + y)) (first_of s y z) values n) n

abbrev pub SpaceKeys : Shape → ℕ → ℕ → ℕ → List ℕ → List ℕ → ℕ → List ℕ → ℕ → Type 0
SpaceKeys s bx by bz from to at values n = All s.z (bit bz) (λ z n. PlaneKeys s bx by from to at values z n) n

-- ---- sums
-- By the note, the length, and whether the leg to the destination is clear in the adaptive mode.
unfoldable pub sum_of : ℕ → ℕ → Bool → ℕ
sum_of note len adaptive = cond (ltb note unclear) (note + 4096 * (4 * len + det_of adaptive)) unclear

-- A place of an array and what is stored there.
pub record Cell : Type 0 where
  pub node : ℕ
  pub value : ℕ

-- The array `new` is `old`, but for the places that P has a cell of: there it has such a cell.
pub record Stored (old new : List ℕ) (P : Cell → Type 0) : Type 0 where
  pub long : length new ≡ length old
  pub each : (v n : ℕ) → v < length old → P (record { node = v; value = n }) → P (record { node = v; value = get_or new v 0 })
  pub other : (v : ℕ) → v < length old → (get_or new v 0 ≡ get_or old v 0) ⊎ P (record { node = v; value = get_or new v 0 })

pub record SumAt (notes : List ℕ) (len node : ℕ) (adaptive : Bool) (c : Cell) : Type 0 where
  pub at : c.node ≡ node
  pub sum : c.value ≡ sum_of (get_or notes node 0) len adaptive

-- The sums of the nodes of a row, of a plane and of all planes. xs, ys, zs: what the places of each dimension make of the length.
abbrev pub RowSums : ℕ → ℕ → ℕ → ℕ → List ℕ → List ℕ → ℕ → Cell → Type 0
RowSums len word adaptive first notes xs part c = All len (bit word) (λ x c. SumAt notes (part + get_or xs x 0) (first + x) (bit adaptive x) c) c

abbrev pub RowSumsAt : Shape → List ℕ → ℕ → List ℕ → List ℕ → ℕ → ℕ → ℕ → ℕ → Cell → Type 0
RowSumsAt s xs bx notes to at part y z c =
    RowSums s.x (bit_and bx (get_or to (at + (16 * z + y) + 256) 0)) (get_or to (at + (16 * z + y)) 0) (first_of s y z) notes xs part c

abbrev pub PlaneSums : Shape → List ℕ → List ℕ → ℕ → ℕ → List ℕ → List ℕ → ℕ → ℕ → ℕ → Cell → Type 0
PlaneSums s xs ys bx by notes to at part z c = All s.y (bit by) (λ y c. RowSumsAt s xs bx notes to at (part + get_or ys y 0) y z c) c

abbrev pub SpaceSums : Shape → List ℕ → List ℕ → List ℕ → ℕ → ℕ → ℕ → List ℕ → List ℕ → ℕ → Cell → Type 0
SpaceSums s xs ys zs bx by bz notes to at c = All s.z (bit bz) (λ z c. PlaneSums s xs ys bx by notes to at (get_or zs z 0) z c) c
