-- The code's own steps: what is known of an accepted plan p while a route from S to D is sought, by the notes of the nodes.
use Rattle.std.specs.Prelude.{ℕ, ◌+◌, ◌*◌, ◌/◌, ◌%◌, ◌≤◌, ◌<◌, ◌≡◌, Bool, true, false, cond, List, length, get_or, ltb, Option, Some, None}
use Rattle.shape.specs.declared.shape.Shape.{Shape}
use Rattle.shape.specs.declared.shape.Coords.{Coords}
use Rattle.machine.specs.declared.leg.Mode.TheVariants.{Adaptive, Deterministic}
use Rattle.machine.specs.Number.{node_count}
use Rattle.machine.specs.Hop.{hops}
use Rattle.weights.specs.declared.weights.Weights.{Weights}
use Rattle.plan.specs.Layout.{shape_of, weights_of}
use Rattle.plan.specs.Checks.{large, plan_error}
use Rattle.packet.specs.declared.route.Route.{Route}
use Rattle.choice.specs.declared.outcome.Outcome.{Outcome}
use Rattle.choice.specs.Outcome.{told}
use Rattle.choice.specs.Pair.{far_in, route_in, chosen}
use Rattle.search.specs.Number.{unclear}
use Rattle.search.specs.Near.{NearWays}
use Rattle.choice_number.specs.Note.{over_of}
use Rattle.masks.specs.Masks.{Masked}
use Rattle.notes.specs.Known.{is_clear, OfPlan, IsAt, FromSet, ToBetween, BothTo, PartTo, IsBox, NoteTo}

abbrev pub route_told : List ℕ → ℕ → ℕ → Outcome
route_told p S D = told (far_in p) S (chosen (route_in p S D))

-- The notes of all nodes; and of those on the shortest ways to D alone.
abbrev pub Noted : List ℕ → ℕ → List ℕ → Type 0
Noted p S notes = (w : ℕ) → w < node_count (shape_of p) → NoteTo p S w (get_or notes w 0)

abbrev pub NotedBetween : List ℕ → ℕ → ℕ → List ℕ → Type 0
NotedBetween p S D notes = (w : ℕ) → w < node_count (shape_of p) → hops (shape_of p) S w + hops (shape_of p) w D ≡ hops (shape_of p) S D → NoteTo p S w (get_or notes w 0)

-- By the via of a note, where both its legs are adaptive and make the least length.
unfoldable pub via_route : ℕ → ℕ → Option Outcome
via_route note len = cond (ltb note 4096) (Some (Outcome.Given (Route.Via note Adaptive Adaptive) len)) None

-- What a step of the search gives: the route, or that the direct deterministic leg is not clear.
pub record Near (p : List ℕ) (S D : ℕ) (r : Option Outcome) : Type 0 where
  pub given : (o : Outcome) → r ≡ Some o → o ≡ route_told p S D
  pub none : r ≡ None → is_clear p Deterministic S D ≡ false

-- Vias u and x on a shortest way, with three clear adaptive legs.
pub record OnWays (p : List ℕ) (S D u x : ℕ) : Type 0 where
  pub below : u < node_count (shape_of p)
  pub behind : x < node_count (shape_of p)
  pub one : is_clear p Adaptive S u ≡ true
  pub two : is_clear p Adaptive u x ≡ true
  pub three : is_clear p Adaptive x D ≡ true
  pub between : far_in p S u + far_in p u D ≡ far_in p S D
  pub further : far_in p u x + far_in p x D ≡ far_in p u D

-- The number n says by which two of them the route goes; or it is not below `unclear`, and there are none.
pub record TwoTo (p : List ℕ) (S D n : ℕ) : Type 0 where
  pub given : n < unclear → Outcome.Given (Route.Vias (n / 4096 % 4096) (n % 4096) Adaptive Adaptive Adaptive) (far_in p S D) ≡ route_told p S D
  pub none : unclear ≤ n → (u x : ℕ) → OnWays p S D u x → ⊥

-- ---- what each step rests on
-- A pair whose direct adaptive leg is not clear.
pub record Apart (p : List ℕ) (s : Shape) (S D len : ℕ) : Type 0 where
  pub plan : plan_error large p ≡ 0
  pub shape : s ≡ shape_of p
  pub source : S < node_count (shape_of p)
  pub target : D < node_count (shape_of p)
  pub distance : len ≡ far_in p S D
  pub direct : is_clear p Adaptive S D ≡ false

-- The step with two vias on the shortest ways, where no via there has two clear adaptive legs, as the note of D says.
pub record Pairing (p : List ℕ) (s : Shape) (S D bx by bz : ℕ) (to : List ℕ) (at : ℕ) (notes : List ℕ) : Type 0 where
  pub plan : plan_error large p ≡ 0
  pub shape : s ≡ shape_of p
  pub source : S < node_count (shape_of p)
  pub target : D < node_count (shape_of p)
  pub direct : is_clear p Adaptive S D ≡ false
  pub box : IsBox p S D bx by bz
  pub back : ToBetween p Adaptive S D to at
  pub room : at + 256 ≤ length to
  pub over : 4096 ≤ get_or notes D 0
  pub noted : NotedBetween p S D notes

-- The steps behind it.
pub record Nearing (p : List ℕ) (s : Shape) (S D len : ℕ) (fa : List ℕ) (straight : Bool) (note pair : ℕ) : Type 0 where
  pub apart : Apart p s S D len
  pub one : straight ≡ is_clear p Deterministic S D
  pub out : FromSet p Adaptive S fa
  pub own : NoteTo p S D note
  pub over : 4096 ≤ note
  pub two : TwoTo p S D pair

-- The step with what each node as second via can reach. The product of the masks has every node by which that may be better than the note.
pub record Reaching (p : List ℕ) (w : Weights) (s : Shape) (S D len : ℕ) (a t : Coords) (bx by bz : ℕ) (fa : List ℕ) (note : ℕ) (to : List ℕ) (at : ℕ) (notes : List ℕ) : Type 0 where
  pub apart : Apart p s S D len
  pub weights : w ≡ weights_of p
  pub source : IsAt p S a
  pub target : IsAt p D t
  pub blocked : is_clear p Deterministic S D ≡ false
  pub near : NearWays w s a t (over_of note) bx by bz
  pub out : FromSet p Adaptive S fa
  pub both : PartTo p D bx by bz to at
  pub own : note ≡ get_or notes D 0
  pub noted : Noted p S notes

-- The last step, by the sets to all nodes, or by the losses and the masks of all targets.
pub record FarSets (p : List ℕ) (w : Weights) (s : Shape) (work : List ℕ) (S D : ℕ) (a t : Coords) (fa : List ℕ) (note : ℕ) (notes : List ℕ) : Type 0 where
  pub plan : plan_error large p ≡ 0
  pub weights : w ≡ weights_of p
  pub shape : s ≡ shape_of p
  pub source : IsAt p S a
  pub target : IsAt p D t
  pub adaptive : FromSet p Adaptive S fa
  pub both : BothTo p D work (512 * D)
  pub direct : is_clear p Adaptive S D ≡ false
  pub blocked : is_clear p Deterministic S D ≡ false
  pub own : note ≡ get_or notes D 0
  pub noted : Noted p S notes

pub record FarLost (p : List ℕ) (w : Weights) (s : Shape) (words : List ℕ) (count : ℕ) (ta td : List ℕ) (S D : ℕ) (a t : Coords) (fa : List ℕ) (note : ℕ) (notes : List ℕ) : Type 0 where
  pub of_plan : OfPlan p s words count
  pub weights : w ≡ weights_of p
  pub masks : Masked Adaptive false s ta
  pub others : Masked Deterministic false s td
  pub source : IsAt p S a
  pub target : IsAt p D t
  pub adaptive : FromSet p Adaptive S fa
  pub direct : is_clear p Adaptive S D ≡ false
  pub blocked : is_clear p Deterministic S D ≡ false
  pub own : note ≡ get_or notes D 0
  pub noted : Noted p S notes
