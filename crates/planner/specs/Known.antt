-- The code's own steps: what is known of an accepted plan p while the routes from S are planned.
use Rattle.std.specs.Prelude.{ℕ, ◌+◌, ◌*◌, ◌≤◌, ◌<◌, ◌≡◌, ◌⊎◌, true, false, List, length, get_or}
use Rattle.shape.specs.declared.shape.Shape.{Shape}
use Rattle.shape.specs.declared.shape.Coords.{Coords}
use Rattle.machine.specs.declared.leg.Mode.TheVariants.{Adaptive, Deterministic}
use Rattle.machine.specs.Number.{node_count, coords_of}
use Rattle.machine.specs.Hop.{hops}
use Rattle.plan.specs.Layout.{shape_of, faults_of}
use Rattle.plan.specs.Checks.{large, plan_error}
use Rattle.dead.specs.Dead.{dead_node, bit_of, node_answer}
use Rattle.rows.specs.Rows.{in_set}
use Rattle.masks.specs.Masks.{Masked}
use Rattle.route_value.specs.Making.{Holds}
use Rattle.planned_sheet.specs.Sheet.{entries_from}
use Rattle.notes.specs.Known.{is_clear, OfPlan, IsAt, FromSet, BothTo, NearLosses, NoteTo}
use Rattle.first_clear.specs.Known.{TwoTo}

-- A run with both sets to each node, 512 rows a node.
pub record Filled (p work : List ℕ) : Type 0 where
  pub each : (D : ℕ) → D < node_count (shape_of p) → BothTo p D work (512 * D)

-- An empty run, or one that has room for them; and where it has them.
abbrev pub Roomy : List ℕ → List ℕ → Type 0
Roomy p work = (length work ≡ 0 → ⊥) → 512 * node_count (shape_of p) ≤ length work

abbrev pub Work : List ℕ → List ℕ → Type 0
Work p work = (length work ≡ 0) ⊎ Filled p work

-- The first n of `near` stand for all losses, for every destination of a row, y + 16 × z, where the run `work` is empty.
pub record NearRow (p work : List ℕ) (S : ℕ) (words : List ℕ) (count : ℕ) (near : List ℕ) (n row : ℕ) : Type 0 where
  pub few : n ≤ 256
  pub each : length work ≡ 0 → (D : ℕ) → D < node_count (shape_of p) → (coords_of (shape_of p) D).y + 16 * (coords_of (shape_of p) D).z ≡ row → NearLosses p S D words count near n

-- What depends on the plan alone: its shape, losses and dead nodes, the masks of all targets, and a run for the sets to all nodes.
pub record Prepared (p : List ℕ) (s : Shape) (words : List ℕ) (count : ℕ) (dead ta td work : List ℕ) : Type 0 where
  pub of_plan : OfPlan p s words count
  pub nodes : (n : ℕ) → get_or dead n 0 ≡ bit_of (node_answer large p n)
  pub adaptive : Masked Adaptive false s ta
  pub deterministic : Masked Deterministic false s td
  pub room : Roomy p work

-- And on the source S, which is sound: the nodes with a clear leg from it.
pub record Ready (p : List ℕ) (s : Shape) (words : List ℕ) (count : ℕ) (dead ta td work : List ℕ) (S : ℕ) (a : Coords) (fa fd : List ℕ) : Type 0 where
  pub prepared : Prepared p s words count dead ta td work
  pub source : IsAt p S a
  pub alive : dead_node (faults_of p) S ≡ false
  pub adaptive : FromSet p Adaptive S fa
  pub deterministic : FromSet p Deterministic S fd

-- The notes of the nodes that are not in the set `skip`, and of those to which the direct adaptive leg is clear.
pub record NotesMade (p : List ℕ) (S : ℕ) (skip notes : List ℕ) : Type 0 where
  pub outside : (w : ℕ) → w < node_count (shape_of p) → in_set (shape_of p) skip 0 w ≡ false → NoteTo p S w (get_or notes w 0)
  pub direct : (w : ℕ) → w < node_count (shape_of p) → is_clear p Adaptive S w ≡ true → NoteTo p S w (get_or notes w 0)

-- Every node on the shortest ways from S to w is noted: it is not in the set `skip`, or the direct adaptive leg to it is clear.
abbrev pub Unskipped : List ℕ → ℕ → List ℕ → ℕ → Type 0
Unskipped p S skip w =
    (v : ℕ) → v < node_count (shape_of p) → hops (shape_of p) S v + hops (shape_of p) v w ≡ hops (shape_of p) S w → (in_set (shape_of p) skip 0 v ≡ false) ⊎ (is_clear p Adaptive S v ≡ true)

-- The two vias of a node, where it needs them: the direct adaptive leg to it is not clear, and no via on the shortest ways has two.
abbrev pub TwoOf : List ℕ → ℕ → List ℕ → List ℕ → ℕ → Type 0
TwoOf p S notes twos w = is_clear p Adaptive S w ≡ false → 4096 ≤ get_or notes w 0 → TwoTo p S w (get_or twos w 0)

-- Of the nodes that are not in the set `skip`; and of all nodes.
pub record TwosMade (p : List ℕ) (S : ℕ) (skip notes twos : List ℕ) : Type 0 where
  pub each : (w : ℕ) → w < node_count (shape_of p) → in_set (shape_of p) skip 0 w ≡ false → Unskipped p S skip w → TwoOf p S notes twos w

abbrev pub Twos : List ℕ → ℕ → List ℕ → List ℕ → Type 0
Twos p S notes twos = (w : ℕ) → w < node_count (shape_of p) → TwoOf p S notes twos w

-- The ends of a pair, and the nodes that do not lie between them.
pub record Ends (p : List ℕ) (s : Shape) (S D : ℕ) (a t : Coords) : Type 0 where
  pub plan : plan_error large p ≡ 0
  pub shape : s ≡ shape_of p
  pub source : IsAt p S a
  pub target : IsAt p D t

abbrev pub Beside : List ℕ → ℕ → ℕ → List ℕ → Type 0
Beside p S D rows = (w : ℕ) → w < node_count (shape_of p) → hops (shape_of p) S w + hops (shape_of p) w D ≡ hops (shape_of p) S D → in_set (shape_of p) rows 0 w ≡ false

-- The entries of the sheet from S are so many; and the bytes hold them, if the run `work` is empty or has the sets to all nodes.
pub record Listed (p work : List ℕ) (S : ℕ) (bytes : List ℕ) (count : ℕ) : Type 0 where
  pub held : Work p work → Holds (entries_from large p S 0 (node_count (shape_of p))) bytes
  pub many : count ≡ length (entries_from large p S 0 (node_count (shape_of p)))
