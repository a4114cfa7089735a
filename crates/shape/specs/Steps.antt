-- The code's own steps: of two places that exist, which hops are useful, without counting those between them, and which way a deterministic leg goes.
use Rattle.std.specs.Prelude.{ℕ, ◌-◌, ◌*◌, Bool, true, false, cond, not, ◌&&◌, ltb, leb, eqb}
use Rattle.shape.specs.Axis.{axis_useful}

abbrev pub open_useful : ℕ → ℕ → Bool → Bool
open_useful p q plus = cond plus (ltb p q) (ltb q p)

-- The hops from p to q going plus, round a ring.
unfoldable pub ahead : ℕ → ℕ → ℕ → ℕ
ahead len p q = cond (leb p q) (q - p) (len - (p - q))

-- Plus is useful up to half the ring, minus from half the ring on.
abbrev pub ring_useful : ℕ → ℕ → Bool → Bool
ring_useful len up plus = not (eqb up 0) && cond plus (leb (2 * up) len) (leb len (2 * up))

-- Plus below half the ring, minus above it, and at half by `tie`.
abbrev pub ring_goes : ℕ → ℕ → Bool → Bool
ring_goes len up tie = not (eqb up 0) && cond (eqb (2 * up) len) tie (ltb (2 * up) len)

-- From p toward q the one way of a deterministic leg goes plus. ties: whether half a ring goes plus from a place.
unfoldable pub goes : (ℕ → Bool) → ℕ → Bool → ℕ → ℕ → Bool
goes ties len ring p q =
    let plus = axis_useful len ring p q true in
    cond (plus && axis_useful len ring p q false) (ties p) plus
