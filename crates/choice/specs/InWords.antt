-- The order in the documents' own words: request E5's for at most two vias, and document 01's for at most one.
use Rattle.std.specs.Prelude.{ℕ, List, [], ◌∷◌, length}
use Rattle.choice.specs.Choice.{Choice, vias_of, det, modes_of, dets_of, length_from}

-- The first and the second via's node number, 0 where there is none.
unfoldable pub first_via : List ℕ → ℕ
first_via [] = 0
first_via (v ∷ vs) = v

unfoldable pub second_via : List ℕ → ℕ
second_via [] = 0
second_via (v ∷ vs) = first_via vs

-- 0 where the first leg is adaptive, 1 where it is deterministic.
unfoldable pub first_det : Choice → ℕ
first_det [] = 0
first_det (l ∷ ls) = det l.mode

-- Length, deterministic legs, vias, first via, second via, then modes leg by leg, adaptive first.
unfoldable pub two_vias_key : (ℕ → ℕ → ℕ) → ℕ → Choice → List ℕ
two_vias_key far S c = length_from far S c ∷ dets_of c ∷ length (vias_of c) ∷ first_via (vias_of c) ∷ second_via (vias_of c) ∷ modes_of c

-- Length; number of deterministic legs; number of vias; via's node number; then first leg adaptive before first leg deterministic.
unfoldable pub one_via_key : (ℕ → ℕ → ℕ) → ℕ → Choice → List ℕ
one_via_key far S c = length_from far S c ∷ dets_of c ∷ length (vias_of c) ∷ first_via (vias_of c) ∷ first_det c ∷ []
