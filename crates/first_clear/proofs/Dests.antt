-- What each call of a step is given, and what its answers say.
use Prim.Native.Nat.{ℕ, ◌*◌, ◌<◌, ◌%◌}
use native.Mathlib.Omega.{arith}
use mathlib.Core.Path.{◌≡◌, refl, sym, ap, ◌∙◌}
use mathlib.Core.Bool.{Bool, true, false}
use mathlib.Core.List.{List}
use lib.ListN.{get_or}
use Rattle.shape.specs.declared.shape.Shape.{Shape}
use Rattle.shape.specs.declared.shape.Coords.{Coords}
use Rattle.machine.specs.declared.leg.Mode.TheVariants.{Adaptive, Deterministic}
use Rattle.machine.specs.Number.{node_count, coords_of}
use Rattle.machine.specs.Node.{coords_answer}
use Rattle.machine.proofs.Nodes.{below_node}
use Rattle.weights.specs.declared.weights.Weights.{Weights}
use Rattle.weights.specs.Steps.{distance_word}
use Rattle.plan.specs.Layout.{shape_of, weights_of}
use Rattle.plan.specs.Checks.{large, plan_error}
use Rattle.choice.specs.declared.outcome.Outcome.{Outcome}
use Rattle.rows.specs.Rows.{in_rows, in_set}
use Rattle.masks.specs.Masks.{gather_at}
use Rattle.search.specs.BestVia.{askable}
use Rattle.search.specs.Near.{NearWays}
use Rattle.search.proofs.OfNodes.{askable_at}
use Rattle.choice_number.specs.Note.{over_of}
use Rattle.notes.specs.Known.{is_clear, IsAt, FromSet, PartTo, ToEnd}
use Rattle.notes.proofs.Knowing.{weights_ok, shape_ok, part_of}
use Rattle.notes.proofs.Destination.{length_is_law, gathered_at, small_at}
use Rattle.first_clear.specs.Known.{route_told, Near, Reaching, FarSets, FarLost}

-- Whether a node is in a set, by its coordinates.
pub member :
    (p : List ℕ) (s : Shape) (v : ℕ) (c : Coords) (rows : List ℕ) (at : ℕ) (b : Bool) → plan_error large p ≡ 0 → s ≡ shape_of p → v < node_count (shape_of p) → c ≡ coords_answer s v →
    (c.x < 16 → c.y < 16 → c.z < 16 → b ≡ in_rows rows at c) → b ≡ in_set (shape_of p) rows at v
unfolding in_set
member p s v c rows at b h es l ec is =
    let e : c ≡ coords_of (shape_of p) v = ec ∙ rw (es, below_node (shape_of p) (shape_ok p h) v l) refl in
    let k = small_at p v c h (record { node = l; at = e }) in
    is k.0 k.1 k.2 ∙ ap (in_rows rows at) e

-- The places of every second via that may be better than the note.
pub near_known :
    (p : List ℕ) (w : Weights) (s : Shape) (S D : ℕ) (a t : Coords) → plan_error large p ≡ 0 → w ≡ weights_of p → s ≡ shape_of p → IsAt p S a → IsAt p D t →
    (note over bx by bz : ℕ) → over ≡ over_of note → (askable w s a t 512 0 ≡ true → NearWays w s a t over bx by bz) → NearWays w s a t (over_of note) bx by bz
near_known p w s S D a t h ew es from to note over bx by bz eo near =
    rw (← eo) (near (rw (ew, es, from.at, to.at) (askable_at (weights_of p) (weights_ok p h) (shape_of p) (shape_ok p h) S D from.node to.node 512 0 (omega arith))))

-- ---- by the sets to all nodes
module _ (p : List ℕ) (w : Weights) (s : Shape) (work : List ℕ) (S D : ℕ) (a t : Coords) (fa : List ℕ) (note : ℕ) (notes : List ℕ)
    (g : FarSets p w s work S D a t fa note notes) where
  pub sets_reaching :
      (over bx by bz : ℕ) → over ≡ over_of note → (askable w s a t 512 0 ≡ true → NearWays w s a t over bx by bz) →
      Reaching p w s S D (distance_word w s a t) a t bx by bz fa note work (512 * D) notes
  sets_reaching over bx by bz eo near = record {
    apart = record {
      plan = g.plan;
      shape = g.shape;
      source = g.source.node;
      target = g.target.node;
      distance = length_is_law p w s S D a t (distance_word w s a t) g.plan g.weights g.shape g.source g.target refl;
      direct = g.direct;
    };
    weights = g.weights;
    source = g.source;
    target = g.target;
    blocked = g.blocked;
    near = near_known p w s S D a t g.plan g.weights g.shape g.source g.target note over bx by bz eo near;
    out = g.adaptive;
    both = part_of p D bx by bz work (512 * D) g.both;
    own = g.own;
    noted = g.noted;
  }

-- ---- by the losses
module _ (p : List ℕ) (w : Weights) (s : Shape) (words : List ℕ) (count : ℕ) (ta td : List ℕ) (S D : ℕ) (a t : Coords) (fa : List ℕ) (note : ℕ) (notes : List ℕ)
    (g : FarLost p w s words count ta td S D a t fa note notes) where
  pub far_ends :
      (masks others : List ℕ) → ((i : ℕ) → i < 288 → get_or masks i 0 ≡ gather_at ta t i) → ((i : ℕ) → i < 288 → get_or others i 0 ≡ gather_at td t i) → ToEnd p s words count D t masks others
  far_ends masks others ga gd = record {
    of_plan = g.of_plan;
    node = g.target;
    adaptive = gathered_at p s D t ta masks g.of_plan.plan g.target Adaptive false g.masks ga;
    deterministic = gathered_at p s D t td others g.of_plan.plan g.target Deterministic false g.others gd;
  }

  pub far_reaching :
      (over bx by bz : ℕ) → over ≡ over_of note → (askable w s a t 512 0 ≡ true → NearWays w s a t over bx by bz) → (run : List ℕ) → PartTo p D bx by bz run 0 →
      Reaching p w s S D (distance_word w s a t) a t bx by bz fa note run 0 notes
  far_reaching over bx by bz eo near run both = record {
    apart = record {
      plan = g.of_plan.plan;
      shape = g.of_plan.shape;
      source = g.source.node;
      target = g.target.node;
      distance = length_is_law p w s S D a t (distance_word w s a t) g.of_plan.plan g.weights g.of_plan.shape g.source g.target refl;
      direct = g.direct;
    };
    weights = g.weights;
    source = g.source;
    target = g.target;
    blocked = g.blocked;
    near = near_known p w s S D a t g.of_plan.plan g.weights g.of_plan.shape g.source g.target note over bx by bz eo near;
    out = g.adaptive;
    both = both;
    own = g.own;
    noted = g.noted;
  }

-- Whether the leg from S to the via of a number is clear and adaptive.
pub first_leg :
    (p : List ℕ) (s : Shape) (S x via : ℕ) (c : Coords) (fa : List ℕ) (b : Bool) → plan_error large p ≡ 0 → s ≡ shape_of p → FromSet p Adaptive S fa → x % 4096 < node_count (shape_of p) → via ≡ x % 4096 → c ≡ coords_answer s via →
    (c.x < 16 → c.y < 16 → c.z < 16 → b ≡ in_rows fa 0 c) → b ≡ is_clear p Adaptive S (x % 4096)
first_leg p s S x via c fa b h es out l ev ec is =
    let k : via < node_count (shape_of p) = omega arith in
    member p s via c fa 0 b h es k ec is ∙ out via k ∙ ap (is_clear p Adaptive S) ev
