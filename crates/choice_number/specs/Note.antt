-- The note of a node: what one via between the source and that node makes, as one number; and what the node as second via can reach.
use Rattle.std.specs.Prelude.{ℕ, ◌+◌, ◌*◌, ◌/◌, ◌<◌, ◌≤◌, ◌≡◌, ◌⊎◌, Bool, true, cond, ◌&&◌, ltb, leb}
use Rattle.machine.specs.declared.leg.Leg.{Leg}
use Rattle.machine.specs.declared.leg.Mode.TheVariants.{Adaptive, Deterministic}
use Rattle.machine.specs.Torus.{leg}
use Rattle.search.specs.Number.{unclear, det_of}

-- For any lengths of legs and any notion of clear legs, in which a clear adaptive leg is clear deterministically: a leg from u to t is clear in some mode.
abbrev pub is_clear_by : (Leg → ℕ → Bool) → ℕ → ℕ → Bool
is_clear_by clear u t = clear (leg t Deterministic) u

-- Deterministic legs of the leg from u to t in its better mode: none where it is clear and adaptive.
abbrev pub det_by : (Leg → ℕ → Bool) → ℕ → ℕ → ℕ
det_by clear u t = det_of (clear (leg t Adaptive) u)

-- The order by length and deterministic legs, of which there are at most three, as one number: from S by v to w.
unfoldable pub value_by : (ℕ → ℕ → ℕ) → (Leg → ℕ → Bool) → ℕ → ℕ → ℕ → ℕ
value_by far clear S v w = 4 * (far S v + far v w) + (det_by clear S v + det_by clear v w)

-- Both legs by v are clear, and x says by how much their value is above the least that a way from S to w may have, and v.
pub record NoteBy (far : ℕ → ℕ → ℕ) (clear : Leg → ℕ → Bool) (n S w x : ℕ) : Type 0 where
  pub v : ℕ
  pub below : v < n
  pub out : is_clear_by clear S v ≡ true
  pub back : is_clear_by clear v w ≡ true
  pub is : x + 4096 * (4 * far S w) ≡ 4096 * value_by far clear S v w + v

-- As second via w needs no first one: the leg from S to w is clear and adaptive; or it is clear and deterministic, and the way by v is no better.
abbrev pub Needless : (ℕ → ℕ → ℕ) → (Leg → ℕ → Bool) → ℕ → ℕ → ℕ → Type 0
Needless far clear S w v = (clear (leg w Adaptive) S ≡ true) ⊎ ((clear (leg w Deterministic) S ≡ true) × (4 * far S w < value_by far clear S v w))

-- x is the note of w: `unclear`, or that of a via; and no via has a lower one, but where w needs none.
pub record Note (far : ℕ → ℕ → ℕ) (clear : Leg → ℕ → Bool) (n S w x : ℕ) : Type 0 where
  pub real : x < unclear → NoteBy far clear n S w x
  pub least : (v : ℕ) → v < n → is_clear_by clear S v ≡ true → is_clear_by clear v w ≡ true → (x + 4096 * (4 * far S w) ≤ 4096 * value_by far clear S v w + v) ⊎ Needless far clear S w v

-- What w as second via can reach: the destination D by the note x of w and the leg from w to D, with the whole value and the first via.
unfoldable pub reach_by : (ℕ → ℕ → ℕ) → (Leg → ℕ → Bool) → ℕ → ℕ → ℕ → ℕ → ℕ
reach_by far clear S D x w = cond (is_clear_by clear w D && ltb x unclear) (x + 4096 * (4 * (far S w + far w D) + det_by clear w D)) unclear

-- The value of the best choice by one via, as the note x of a destination at the distance len says, below which a second via has to be; `unclear` where
-- there is none.
unfoldable pub bound_of : ℕ → ℕ → ℕ
bound_of x len = cond (leb unclear x) unclear (4096 * (x / 4096 + 4 * len))

-- By how much the length by way of a second via may be above the distance of a destination with the note x: from there on it is not below the bound.
unfoldable pub over_of : ℕ → ℕ
over_of x = cond (leb unclear x) 65535 ((x / 4096 + 3) / 4)

abbrev pub bound_by : (ℕ → ℕ → ℕ) → ℕ → ℕ → ℕ → ℕ
bound_by far S D x = bound_of x (far S D)
