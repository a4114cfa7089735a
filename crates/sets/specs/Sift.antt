-- The losses that can meet a leg between one end and a node at given places in Y and Z.
use Rattle.std.specs.Prelude.{ℕ, ◌/◌, ◌%◌, ◌≤◌, ◌≡◌, Bool, false, cond, not, ◌&&◌, ◌||◌, List, length, get_or, ltb, eqb}
use Rattle.std.specs.Int.Bits.{bit_and}
use Rattle.losses.specs.Loss.{loss_kind, some_below}
use Rattle.sets.specs.Part.{mask_in}

-- By the masks of the end, what is lost of this kind has places of by in Y and places of bz in Z.
unfoldable pub part_reaches : ℕ → ℕ → List ℕ → ℕ → ℕ → Bool
part_reaches by bz ends kind w = not (eqb (bit_and (mask_in ends kind 1 (w / 16 % 16)) by) 0) && not (eqb (bit_and (mask_in ends kind 2 (w / 256 % 16)) bz) 0)

unfoldable pub dead_reaches : ℕ → ℕ → List ℕ → ℕ → Bool
dead_reaches by bz ends w = part_reaches by bz ends 9 w || (part_reaches by bz ends 10 w || part_reaches by bz ends 11 w)

-- The loss w has.
unfoldable pub reaches : ℕ → ℕ → List ℕ → ℕ → Bool
reaches by bz ends w = cond (ltb (loss_kind w) 9) (part_reaches by bz ends (loss_kind w) w) (cond (eqb (loss_kind w) 9) (dead_reaches by bz ends w) false)

-- The first m of `kept` stand for the first n losses: whatever holds of no loss that does not reach holds of one of them just where it holds of one of the
-- losses.
pub record Sifted (by bz : ℕ) (ends losses : List ℕ) (n : ℕ) (old kept : List ℕ) (m : ℕ) : Type 0 where
  pub few : m ≤ n
  pub long : length kept ≡ length old
  pub same : length old ≡ 256 → (f : ℕ → Bool) → ((w : ℕ) → reaches by bz ends w ≡ false → f w ≡ false) → some_below m (λ i. f (get_or kept i 0)) ≡ some_below n (λ i. f (get_or losses i 0))
