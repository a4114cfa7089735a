-- The code's own steps: the number of a via, whose order is the order of the choices with one via.
use Rattle.std.specs.Prelude.{ℕ, ◌+◌, ◌*◌, Bool, cond, ◌&&◌}

-- Place values: length; number of deterministic legs; number of vias; the via's node number. The first leg's mode has the last place.
abbrev pub length_place : ℕ
length_place = 65536

abbrev pub dets_place : ℕ
dets_place = 16384

abbrev pub vias_place : ℕ
vias_place = 8192

abbrev pub node_place : ℕ
node_place = 2

-- Above every via's number: a length that no choice has.
abbrev pub unclear : ℕ
unclear = 67108864

-- A leg that is not clear in the adaptive mode is deterministic.
abbrev pub det_of : Bool → ℕ
det_of adaptive = cond adaptive 0 1

-- By the length, the via, and whether the leg to it (1) and the leg from it (2) is clear, adaptive (a) and deterministic (d).
unfoldable pub via_number : ℕ → ℕ → Bool → Bool → Bool → Bool → ℕ
via_number len v a1 d1 a2 d2 =
    cond (d1 && d2) (len * length_place + ((det_of a1 + det_of a2) * dets_place + (vias_place + (v * node_place + det_of a1)))) unclear
