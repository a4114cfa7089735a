-- The code's own steps: the hops left of a leg, direction by direction. proofs/HopsLeft.antt ties them to the hops of nodes.
use Rattle.std.specs.Prelude.{ℕ, ◌+◌, ◌-◌, ◌%◌, Bool, true, false, cond, not, ◌&&◌, ◌||◌, List, [], ◌∷◌, get_or, set, ltb, leb, eqb}
use Rattle.shape.specs.declared.shape.Shape.{Shape}
use Rattle.shape.specs.declared.shape.Coords.{Coords}
use Rattle.shape.specs.declared.shape.Dim.{Dim}
use Rattle.shape.specs.declared.shape.Dim.TheVariants.{X, Y, Z}
use Rattle.machine.specs.declared.leg.Mode.{Mode}
use Rattle.machine.specs.declared.leg.Mode.TheVariants.{Adaptive, Deterministic}
use Rattle.shape.specs.Shape.{extent_of, wrapped_in, coord_of}
use Rattle.shape.specs.Axis.{axis_hops, axis_useful}
use Rattle.shape.specs.Steps.{goes}
use Rattle.machine.specs.Hop.{opposite}

-- Along one dimension a leg may go plus, or minus. ties: whether half a ring goes plus from a place.
unfoldable pub opens : (ℕ → Bool) → Mode → ℕ → Bool → ℕ → ℕ → Bool → Bool
opens ties Adaptive len ring p q plus = axis_useful len ring p q plus
opens ties Deterministic len ring p q plus = cond plus (goes ties len ring p q) (not (goes ties len ring p q))

-- The hops left that way.
abbrev pub way_of : (ℕ → Bool) → Mode → ℕ → Bool → ℕ → ℕ → Bool → ℕ
way_of ties m len ring p q plus = cond (opens ties m len ring p q plus) (axis_hops len ring p q) 0

abbrev pub way_along : (ℕ → Bool) → Mode → Shape → Coords → Coords → Dim → Bool → ℕ
way_along ties m s c t d plus = way_of ties m (extent_of s d) (wrapped_in s d) (coord_of c d) (coord_of t d) plus

-- In the order of the directions.
unfoldable pub ways_at : (ℕ → Bool) → Mode → Shape → Coords → Coords → List ℕ
ways_at ties m s c t =
    let way = way_along ties m s c t in
    way X true ∷ way X false ∷ way Y true ∷ way Y false ∷ way Z true ∷ way Z false ∷ []

-- The place from which these hops lead to q.
unfoldable pub once_round : ℕ → ℕ → ℕ
once_round len place = cond (leb len place) (place - len) place

unfoldable pub place_before : ℕ → ℕ → ℕ → ℕ → ℕ
place_before len q plus minus = once_round len (q + cond (eqb plus 0) minus (len - plus)) % 256

unfoldable pub standing_at : Shape → List ℕ → Coords → Coords
standing_at s ws t = record {
  x = place_before s.x t.x (get_or ws 0 0) (get_or ws 1 0);
  y = place_before s.y t.y (get_or ws 2 0) (get_or ws 3 0);
  z = place_before s.z t.z (get_or ws 4 0) (get_or ws 5 0);
}

-- No hop is left in a dimension before that of the direction.
abbrev none_in : List ℕ → ℕ → ℕ → Bool
none_in ws i j = eqb (get_or ws i 0) 0 && eqb (get_or ws j 0) 0

unfoldable pub none_before : List ℕ → ℕ → Bool
none_before ws dir = (ltb dir 2 || none_in ws 0 1) && (ltb dir 4 || none_in ws 2 3)

-- A deterministic leg goes dimension by dimension.
unfoldable pub in_turn : Mode → List ℕ → ℕ → Bool
in_turn Adaptive ws dir = true
in_turn Deterministic ws dir = none_before ws dir

unfoldable pub allowed_in : Mode → List ℕ → ℕ → Bool
allowed_in m ws dir = leb dir 5 && (not (eqb (get_or ws dir 0) 0) && in_turn m ws dir)

-- One hop taken: in the way back none is left.
unfoldable pub hop_taken : List ℕ → ℕ → List ℕ
hop_taken ws dir = set (set ws (opposite dir) 0) dir (get_or ws dir 0 - 1)

abbrev pub taken : Mode → List ℕ → ℕ → List ℕ
taken m ws dir = cond (allowed_in m ws dir) (hop_taken ws dir) ws
