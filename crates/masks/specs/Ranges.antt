-- The code's own steps: ranges of places, and the masks that others are made of.
use Rattle.std.specs.Prelude.{ℕ, Bool, cond, ◌&&◌, leb, ltb}
use Rattle.shape.specs.Axis.{axis_useful}
use Rattle.shape.specs.Steps.{goes}
use Rattle.machine.specs.declared.leg.Mode.{Mode}
use Rattle.machine.specs.Hop.{rule}
use Rattle.legs.specs.Between.{between, crosses}
use Rattle.rows.specs.Bits.{row_of}
use Rattle.masks.specs.Cell.{takes, takes_link, takes_links, passes_before, passes_behind}

-- From lo on, below hi.
unfoldable pub in_range : ℕ → ℕ → ℕ → Bool
in_range lo hi x = leb lo x && ltb x hi

-- ---- of the end `at`, for each other end
unfoldable pub between_row : ℕ → Bool → ℕ → ℕ → ℕ
between_row len ring c at = row_of (λ x. between len ring c at x) len

unfoldable pub useful_row : ℕ → Bool → ℕ → Bool → ℕ
useful_row len ring c plus = row_of (λ x. axis_useful len ring c x plus) len

-- The other ends for which a deterministic leg goes plus.
unfoldable pub ways_row : Bool → ℕ → Bool → ℕ → ℕ
ways_row from len ring at = row_of (λ x. goes rule len ring (cond from at x) (cond from x at)) len

unfoldable pub crosses_row : Bool → ℕ → Bool → Bool → ℕ → ℕ → ℕ
crosses_row from len ring plus c at = row_of (λ x. crosses len ring plus c (cond from at x) (cond from x at)) len

unfoldable pub takes_row : Mode → Bool → ℕ → Bool → Bool → ℕ → ℕ → ℕ
takes_row mode from len ring plus c at = row_of (λ x. takes mode len ring plus c (cond from at x) (cond from x at)) len

unfoldable pub link_row : Mode → Bool → ℕ → Bool → ℕ → ℕ → ℕ
link_row mode from len ring c at = row_of (λ x. takes_link mode len ring c (cond from at x) (cond from x at)) len

unfoldable pub links_row : Mode → Bool → ℕ → Bool → ℕ → ℕ → ℕ
links_row mode from len ring c at = row_of (λ x. takes_links mode len ring c (cond from at x) (cond from x at)) len

unfoldable pub before_row : Mode → Bool → ℕ → Bool → ℕ → ℕ → ℕ
before_row mode from len ring c at = row_of (λ x. passes_before mode len ring c (cond from at x) (cond from x at)) len

unfoldable pub behind_row : Mode → Bool → ℕ → Bool → ℕ → ℕ → ℕ
behind_row mode from len ring c at = row_of (λ x. passes_behind mode len ring c (cond from at x) (cond from x at)) len
