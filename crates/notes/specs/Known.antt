-- The code's own steps: what is known of an accepted plan p while the note of D, or a route from S to D, is sought.
use Rattle.std.specs.Prelude.{ℕ, ◌+◌, ◌-◌, ◌*◌, ◌/◌, ◌%◌, ◌≤◌, ◌<◌, ◌≡◌, ◌↔◌, Bool, true, false, cond, List, length, ltb, leb}
use Rattle.theory.specs.Clear.{clear}
use Rattle.shape.specs.declared.shape.Shape.{Shape}
use Rattle.shape.specs.declared.shape.Coords.{Coords}
use Rattle.machine.specs.declared.leg.Mode.{Mode}
use Rattle.machine.specs.declared.leg.Mode.TheVariants.{Adaptive, Deterministic}
use Rattle.machine.specs.Number.{node_count, coords_of}
use Rattle.machine.specs.Hop.{rule, hops}
use Rattle.machine.specs.Torus.{leg, torus}
use Rattle.weights.specs.declared.weights.Weights.{Weights}
use Rattle.plan.specs.Layout.{shape_of, weights_of}
use Rattle.plan.specs.Checks.{large, plan_error}
use Rattle.choice.specs.Pair.{sound_in, far_in}
use Rattle.rows.specs.Rows.{in_set, in_product}
use Rattle.losses.specs.Loss.{on_leg}
use Rattle.losses.specs.OfPlan.{AreLosses}
use Rattle.masks.specs.Masks.{Ended, Masked}
use Rattle.search.specs.Number.{unclear}
use Rattle.choice_number.specs.Note.{Note}
use Rattle.notes.specs.Rows.{Elsewhere}

-- The leg from u to v in mode m is clear.
abbrev pub is_clear : List ℕ → Mode → ℕ → ℕ → Bool
is_clear p m u v = clear (torus (shape_of p)) (sound_in p) (leg v m) u

-- The plan is accepted, s is its shape, and these are its losses.
pub record OfPlan (p : List ℕ) (s : Shape) (words : List ℕ) (count : ℕ) : Type 0 where
  pub plan : plan_error large p ≡ 0
  pub shape : s ≡ shape_of p
  pub losses : AreLosses p words count

-- n is a node, at these coordinates.
pub record IsAt (p : List ℕ) (n : ℕ) (c : Coords) : Type 0 where
  pub node : n < node_count (shape_of p)
  pub at : c ≡ coords_of (shape_of p) n

-- The set of the nodes with a clear leg from S.
abbrev pub FromSet : List ℕ → Mode → ℕ → List ℕ → Type 0
FromSet p m S rows = (v : ℕ) → v < node_count (shape_of p) → in_set (shape_of p) rows 0 v ≡ is_clear p m S v

-- The set of the nodes with a clear leg to D, whose rows begin at place `at` of a run.
abbrev pub ToSet : List ℕ → Mode → ℕ → List ℕ → ℕ → Type 0
ToSet p m D rows at = (v : ℕ) → v < node_count (shape_of p) → in_set (shape_of p) rows at v ≡ is_clear p m v D

-- The same of the nodes on the shortest ways from S alone.
abbrev pub ToBetween : List ℕ → Mode → ℕ → ℕ → List ℕ → ℕ → Type 0
ToBetween p m S D rows at =
    (v : ℕ) → v < node_count (shape_of p) → hops (shape_of p) S v + hops (shape_of p) v D ≡ hops (shape_of p) S D → in_set (shape_of p) rows at v ≡ is_clear p m v D

-- The same of the nodes in the product of the masks alone.
abbrev pub ToPart : List ℕ → Mode → ℕ → ℕ → ℕ → ℕ → List ℕ → ℕ → Type 0
ToPart p m D bx by bz rows at =
    (v : ℕ) → v < node_count (shape_of p) → in_product bx by bz (coords_of (shape_of p) v) ≡ true → in_set (shape_of p) rows at v ≡ is_clear p m v D

-- Both sets to D, the adaptive one first.
pub record BothTo (p : List ℕ) (D : ℕ) (rows : List ℕ) (at : ℕ) : Type 0 where
  pub room : at + 512 ≤ length rows
  pub adaptive : ToSet p Adaptive D rows at
  pub deterministic : ToSet p Deterministic D rows (at + 256)

-- Both sets of the nodes in the product, the adaptive one first.
pub record PartTo (p : List ℕ) (D bx by bz : ℕ) (rows : List ℕ) (at : ℕ) : Type 0 where
  pub room : at + 512 ≤ length rows
  pub adaptive : ToPart p Adaptive D bx by bz rows at
  pub deterministic : ToPart p Deterministic D bx by bz rows (at + 256)

-- Both sets of the nodes on the shortest ways from S, the adaptive one first.
pub record BothBetween (p : List ℕ) (S D : ℕ) (rows : List ℕ) (at : ℕ) : Type 0 where
  pub room : at + 512 ≤ length rows
  pub adaptive : ToBetween p Adaptive S D rows at
  pub deterministic : ToBetween p Deterministic S D rows (at + 256)

-- What both sets to n, at c, are made of.
pub record ToEnd (p : List ℕ) (s : Shape) (words : List ℕ) (count n : ℕ) (c : Coords) (ea ed : List ℕ) : Type 0 where
  pub of_plan : OfPlan p s words count
  pub node : IsAt p n c
  pub adaptive : Ended Adaptive false s c ea
  pub deterministic : Ended Deterministic false s c ed

-- The note of w.
abbrev pub NoteTo : List ℕ → ℕ → ℕ → ℕ → Type 0
NoteTo p S w x = Note (far_in p) (clear (torus (shape_of p)) (sound_in p)) (node_count (shape_of p)) S w x

-- v lies on a shortest way from S to D, and the legs by it are clear in modes m and n.
pub record OnWay (p : List ℕ) (m n : Mode) (S D v : ℕ) : Type 0 where
  pub out : is_clear p m S v ≡ true
  pub back : is_clear p n v D ≡ true
  pub sum : hops (shape_of p) S v + hops (shape_of p) v D ≡ hops (shape_of p) S D

-- The lowest such node; 4096 where there is none.
pub record LowestVia (p : List ℕ) (m n : Mode) (S D via : ℕ) : Type 0 where
  pub found : via < 4096 → (via < node_count (shape_of p)) × OnWay p m n S D via
  pub before : (v : ℕ) → v < node_count (shape_of p) → v < via → OnWay p m n S D v → ⊥

-- The direct deterministic leg is not clear, and no via on the shortest ways has two clear adaptive legs.
pub record Blocked (p : List ℕ) (S D : ℕ) : Type 0 where
  pub straight : is_clear p Deterministic S D ≡ false
  pub ways : (v : ℕ) → v < node_count (shape_of p) → OnWay p Adaptive Adaptive S D v → ⊥

-- The product of these masks has just the nodes on the shortest ways from S to D.
abbrev pub IsBox : List ℕ → ℕ → ℕ → ℕ → ℕ → ℕ → Type 0
IsBox p S D bx by bz =
    (v : ℕ) → v < node_count (shape_of p) → (in_product bx by bz (coords_of (shape_of p) v) ≡ true) ↔ (hops (shape_of p) S v + hops (shape_of p) v D ≡ hops (shape_of p) S D)

-- The first n of `near` stand for all losses on the legs to D from the nodes on the shortest ways from S.
pub record NearLosses (p : List ℕ) (S D : ℕ) (words : List ℕ) (count : ℕ) (near : List ℕ) (n : ℕ) : Type 0 where
  pub few : n ≤ 256
  pub same :
      (m : Mode) (v : ℕ) → v < node_count (shape_of p) → hops (shape_of p) S v + hops (shape_of p) v D ≡ hops (shape_of p) S D →
      on_leg rule m (shape_of p) near n (coords_of (shape_of p) v) (coords_of (shape_of p) D) ≡ on_leg rule m (shape_of p) words count (coords_of (shape_of p) v) (coords_of (shape_of p) D)

-- The lower of two vias, and the note by a via with so many deterministic legs; 4096 is none.
unfoldable pub lower : ℕ → ℕ → ℕ
lower first second = cond (leb first second) first second

unfoldable pub via_note : ℕ → ℕ → ℕ
via_note via dets = cond (ltb via 4096) (4096 * dets + via) unclear

-- The note by the number of a via and the distance of its ends.
unfoldable pub note_of : ℕ → ℕ → ℕ
note_of number len = cond (leb unclear number) unclear (cond (ltb (number / 16384) (4 * len)) unclear (4096 * (number / 16384 - 4 * len) + number % 8192 / 2))

-- ---- what each step rests on
-- The set of the nodes on the shortest ways that have a clear leg to D in mode m, by its masks, from place `at` of a run on.
pub record Between (p : List ℕ) (m : Mode) (s : Shape) (S D : ℕ) (a t : Coords) (near : List ℕ) (n : ℕ) (ends run : List ℕ) (at : ℕ) : Type 0 where
  pub words : List ℕ
  pub count : ℕ
  pub of_plan : OfPlan p s words count
  pub standing : NearLosses p S D words count near n
  pub source : IsAt p S a
  pub target : IsAt p D t
  pub ended : Ended m false s t ends
  pub room : at + 256 ≤ length run

pub record BetweenMade (p : List ℕ) (m : Mode) (S D at : ℕ) (old new : List ℕ) : Type 0 where
  pub rest : Elsewhere at 256 old new
  pub set : ToBetween p m S D new at

-- The search over all vias, by both sets to D.
pub record Faring (p : List ℕ) (w : Weights) (s : Shape) (S D : ℕ) (a t : Coords) (fa fd to : List ℕ) (at : ℕ) : Type 0 where
  pub plan : plan_error large p ≡ 0
  pub weights : w ≡ weights_of p
  pub shape : s ≡ shape_of p
  pub source : IsAt p S a
  pub target : IsAt p D t
  pub adaptive : FromSet p Adaptive S fa
  pub deterministic : FromSet p Deterministic S fd
  pub both : BothTo p D to at
  pub blocked : is_clear p Deterministic S D ≡ false

-- The step between, over the vias on the shortest ways.
pub record Short (p : List ℕ) (s : Shape) (S D bx by bz : ℕ) (fa fd to : List ℕ) (at : ℕ) : Type 0 where
  pub plan : plan_error large p ≡ 0
  pub shape : s ≡ shape_of p
  pub source : S < node_count (shape_of p)
  pub target : D < node_count (shape_of p)
  pub box : IsBox p S D bx by bz
  pub adaptive : FromSet p Adaptive S fa
  pub deterministic : FromSet p Deterministic S fd
  pub both : BothBetween p S D to at
  pub blocked : Blocked p S D

-- Both, by the masks of D and the set that the first steps left.
pub record FarMasks (p : List ℕ) (w : Weights) (s : Shape) (words : List ℕ) (count S D : ℕ) (a t : Coords) (near : List ℕ) (n : ℕ) (ea ed fa fd run : List ℕ) : Type 0 where
  pub weights : w ≡ weights_of p
  pub ends : ToEnd p s words count D t ea ed
  pub standing : NearLosses p S D words count near n
  pub source : IsAt p S a
  pub out : FromSet p Adaptive S fa
  pub straight : FromSet p Deterministic S fd
  pub set : (1024 ≤ length run) × ToBetween p Adaptive S D run 0
  pub blocked : Blocked p S D

-- One destination, by the sets to all nodes, or by the losses and the masks of all targets.
pub record BySets (p : List ℕ) (w : Weights) (s : Shape) (work : List ℕ) (S D : ℕ) (a t : Coords) (fa fd : List ℕ) (straight : Bool) : Type 0 where
  pub plan : plan_error large p ≡ 0
  pub weights : w ≡ weights_of p
  pub shape : s ≡ shape_of p
  pub source : IsAt p S a
  pub target : IsAt p D t
  pub adaptive : FromSet p Adaptive S fa
  pub deterministic : FromSet p Deterministic S fd
  pub both : BothTo p D work (512 * D)
  pub direct : is_clear p Adaptive S D ≡ false
  pub one : straight ≡ is_clear p Deterministic S D

pub record ByLosses (p : List ℕ) (w : Weights) (s : Shape) (words : List ℕ) (count : ℕ) (near : List ℕ) (n : ℕ) (ta td : List ℕ) (S D : ℕ) (a t : Coords) (fa fd : List ℕ) (straight : Bool) : Type 0 where
  pub of_plan : OfPlan p s words count
  pub weights : w ≡ weights_of p
  pub standing : NearLosses p S D words count near n
  pub masks : Masked Adaptive false s ta
  pub others : Masked Deterministic false s td
  pub source : IsAt p S a
  pub target : IsAt p D t
  pub adaptive : FromSet p Adaptive S fa
  pub deterministic : FromSet p Deterministic S fd
  pub direct : is_clear p Adaptive S D ≡ false
  pub one : straight ≡ is_clear p Deterministic S D
