-- The code's own steps: what a place of a dimension makes of a length, by way of it: the hops to it and the hops from it, each by the weight.
use Rattle.std.specs.Prelude.{ℕ, ◌+◌, ◌*◌, ◌<◌, ◌≡◌, Bool, List, eqb, get_or}
use Rattle.shape.specs.Axis.{axis_hops}
use Rattle.rows.specs.Bits.{row_of}

abbrev pub part_of : ℕ → Bool → ℕ → ℕ → ℕ → ℕ
part_of len ring p q c = axis_hops len ring p c + axis_hops len ring c q

-- The places that make k hops.
unfoldable pub part_row : ℕ → Bool → ℕ → ℕ → ℕ → ℕ
part_row len ring p q k = row_of (λ c. eqb (part_of len ring p q c) k) len

pub record PartsOf (weight len : ℕ) (ring : Bool) (p q : ℕ) (ys : List ℕ) : Type 0 where
  pub each : (c : ℕ) → c < len → get_or ys c 0 ≡ weight * part_of len ring p q c

pub record LevelsOf (len : ℕ) (ring : Bool) (p q : ℕ) (xs : List ℕ) : Type 0 where
  pub each : (k : ℕ) → k < 32 → get_or xs k 0 ≡ part_row len ring p q k
