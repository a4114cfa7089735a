-- One dimension: what lies between two places, and which links the ways between them take.
use Rattle.std.specs.Prelude.{ℕ, ◌+◌, Bool, cond, not, ◌&&◌, ltb, eqb}
use Rattle.shape.specs.Axis.{axis_hops, axis_useful}
use Rattle.shape.specs.Steps.{goes}

-- The place c lies between p and q, the two ends included: it is on a shortest way from p to q.
unfoldable pub between : ℕ → Bool → ℕ → ℕ → ℕ → Bool
between len ring c p q = ltb c len && eqb (axis_hops len ring p c + axis_hops len ring c q) (axis_hops len ring p q)

-- Some shortest way from p to q takes the link that leaves c going plus, or minus.
unfoldable pub crosses : ℕ → Bool → Bool → ℕ → ℕ → ℕ → Bool
crosses len ring plus c p q = between len ring c p q && axis_useful len ring c q plus

abbrev pub agree : Bool → Bool → Bool
agree a b = cond a b (not b)

-- The one way of a deterministic leg from p to q takes it. ties: whether half a ring goes plus from a place.
unfoldable pub runs : (ℕ → Bool) → ℕ → Bool → Bool → ℕ → ℕ → ℕ → Bool
runs ties len ring plus c p q = crosses len ring plus c p q && agree (goes ties len ring p q) plus
