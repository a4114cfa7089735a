-- One dimension: places 0 to len - 1, a ring (wrapped) or open.
use Rattle.std.specs.Prelude.{ℕ, ◌+◌, ◌-◌, min, Bool, cond, ◌&&◌, ◌||◌, ltb, eqb}

-- The coordinates' difference.
abbrev pub gap : ℕ → ℕ → ℕ
gap p q = (p - q) + (q - p)

-- The hops between two places: the coordinates' difference, or in a wrapped dimension the smaller of difference and extent minus difference.
unfoldable pub axis_hops : ℕ → Bool → ℕ → ℕ → ℕ
axis_hops len ring p q = cond ring (min (gap p q) (len - gap p q)) (gap p q)

-- A link joins neighbours in one dimension; a wrapped dimension also joins its last place to place 0.
unfoldable pub has_link : ℕ → Bool → ℕ → Bool → Bool
has_link len ring p plus = ring || cond plus (ltb (p + 1) len) (ltb 0 p)

-- The place at the other end of that link.
unfoldable pub place : ℕ → ℕ → Bool → ℕ
place len p plus = cond plus (cond (ltb (p + 1) len) (p + 1) 0) (cond (ltb 0 p) (p - 1) (len - 1))

-- A hop from p along the dimension leaves one hop fewer to q.
unfoldable pub axis_useful : ℕ → Bool → ℕ → ℕ → Bool → Bool
axis_useful len ring p q plus = has_link len ring p plus && eqb (axis_hops len ring (place len p plus) q + 1) (axis_hops len ring p q)
