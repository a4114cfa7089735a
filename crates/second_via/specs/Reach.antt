-- What each node can reach as second via.
use Rattle.std.specs.Prelude.{ℕ, ◌+◌, ◌*◌, Bool, cond, ◌&&◌, List, ltb, length, get_or}
use Rattle.shape.specs.declared.shape.Shape.{Shape}
use Rattle.shape.specs.declared.shape.Coords.{Coords}
use Rattle.machine.specs.Number.{node_count, coords_of}
use Rattle.weights.specs.declared.weights.Weights.{Weights}
use Rattle.weights.specs.Steps.{distance_at}
use Rattle.rows.specs.Rows.{in_set, in_product}
use Rattle.search.specs.Number.{unclear, det_of}
use Rattle.search.specs.BestVia.{askable}

-- Node w is in the product of the masks, has a note below `unclear`, and has a clear leg to T. The nodes with a clear leg to T: adaptive the set whose rows
-- begin at place `at` of the run `to`, deterministic the one behind it.
unfoldable pub reaches : Weights → Shape → Coords → Coords → ℕ → ℕ → ℕ → List ℕ → List ℕ → ℕ → ℕ → Bool
reaches k s A T bx by bz notes to at w =
    askable k s A T (length to) at && (ltb w (node_count s) && (in_product bx by bz (coords_of s w) && (in_set s to (at + 256) w && ltb (get_or notes w 0) unclear)))

-- Its note, 16,384 for each unit of the length from A by way of it to T, and 4,096 where its leg to T is deterministic, since it is not clear in the adaptive
-- mode. `unclear` where it does not reach T.
unfoldable pub reach_in : Weights → Shape → Coords → Coords → ℕ → ℕ → ℕ → List ℕ → List ℕ → ℕ → ℕ → ℕ
reach_in k s A T bx by bz notes to at w =
    cond (reaches k s A T bx by bz notes to at w)
    (get_or notes w 0 + 4096 * (4 * (distance_at k s A (coords_of s w) + distance_at k s (coords_of s w) T) + det_of (in_set s to at w)))
    unclear
