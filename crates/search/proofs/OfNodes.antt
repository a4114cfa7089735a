-- What the contracts of the searches say of a sound shape, of nodes by their numbers, and of a run that is long enough.
use Prim.Native.Nat.{ℕ, ◌+◌, ◌≤◌, ◌<◌}
use mathlib.Core.Path.{◌≡◌}
use mathlib.Core.Bool.{true}
use mathlib.Core.List.{List}
use lib.ListN.{length}
use borrow.Author.Tests.{eq-eqb, lt-ltb, le-leb}
use Rattle.shape.specs.declared.shape.Shape.{Shape}
use Rattle.shape.specs.declared.shape.Coords.{Coords}
use Rattle.shape.specs.Shape.{shape_error}
use Rattle.machine.specs.Number.{node_count, coords_of, Inside}
use Rattle.machine.proofs.Numbers.{inside}
use Rattle.weights.specs.declared.weights.Weights.{Weights}
use Rattle.weights.specs.Weights.{weight_error}
use Rattle.weights.specs.Distance.{distance}
use Rattle.weights.proofs.ByCoords.{distance_at_law}
use Rattle.rows.specs.Rows.{in_set}
use Rattle.search.specs.FirstVia.{has_rows}
use Rattle.search.specs.Number.{via_number}
use Rattle.search.specs.BestVia.{within, askable, number_in}

long_enough : (len at n : ℕ) → at + n ≤ len → has_rows len at n ≡ true
unfolding has_rows
long_enough len at n h = le-leb (at + n) len h

inside_within : (s : Shape) (c : Coords) → Inside s c → within s c ≡ true
unfolding within
inside_within s c i = rw (lt-ltb c.x s.x i.x, lt-ltb c.y s.y i.y, lt-ltb c.z s.z i.z)

-- A search between two nodes of an accepted plan.
pub askable_at :
    (w : Weights) → weight_error w ≡ 0 → (s : Shape) → shape_error s ≡ 0 → (S D : ℕ) → S < node_count s → D < node_count s → (len at : ℕ) → at + 512 ≤ len → askable w s (coords_of s S) (coords_of s D) len at ≡ true
unfolding askable
askable_at w hw s h S D h_s h_d len at k =
    rw (eq-eqb (weight_error w) 0 hw, eq-eqb (shape_error s) 0 h, inside_within s (coords_of s S) (inside s h S h_s), inside_within s (coords_of s D) (inside s h D h_d), long_enough len at 512 k)

pub number_is :
    (w : Weights) → weight_error w ≡ 0 → (s : Shape) → shape_error s ≡ 0 → (S D : ℕ) → S < node_count s → D < node_count s → (fa fd to : List ℕ) (at : ℕ) → at + 512 ≤ length to →
    (v : ℕ) → number_in w s (coords_of s S) (coords_of s D) fa fd to at v ≡ via_number (distance w s S v + distance w s v D) v (in_set s fa 0 v) (in_set s fd 0 v) (in_set s to at v) (in_set s to (at + 256) v)
unfolding number_in
number_is w hw s h S D h_s h_d fa fd to at k v = rw (askable_at w hw s h S D h_s h_d (length to) at k, distance_at_law w s S v, distance_at_law w s v D)
