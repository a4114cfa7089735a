-- What the sets that a step is given say of the note of D.
use Prim.Native.Nat.{ℕ, ◌+◌, ◌*◌, ◌≤◌, ◌<◌}
use native.Mathlib.Omega.{arith}
use mathlib.Core.Path.{◌≡◌, refl, sym, ap, ◌∙◌}
use mathlib.Core.Logic.{◌↔◌, inl}
use mathlib.Core.Bool.{Bool, true, false, ◌&&◌}
use mathlib.Core.List.{List}
use lib.ListN.{length, get_or}
use Rattle.shape.specs.declared.shape.Shape.{Shape}
use Rattle.shape.specs.declared.shape.Coords.{Coords}
use Rattle.shape.specs.declared.shape.Dim.{Dim}
use Rattle.shape.specs.declared.shape.Dim.TheVariants.{X, Y, Z}
use Rattle.shape.specs.Shape.{shape_error, extent_of, wrapped_in}
use Rattle.shape.proofs.Shapes.{sound}
use Rattle.machine.specs.declared.leg.Mode.{Mode}
use Rattle.machine.specs.declared.leg.Mode.TheVariants.{Adaptive, Deterministic}
use Rattle.machine.specs.Number.{node_count, coords_of, Inside}
use Rattle.machine.specs.Hop.{hops, along}
use Rattle.machine.proofs.Numbers.{inside}
use Rattle.weights.specs.declared.weights.Weights.{Weights}
use Rattle.weights.specs.Steps.{distance_word}
use Rattle.weights.proofs.ByCoords.{distance_word_law}
use Rattle.plan.specs.Layout.{shape_of, weights_of}
use Rattle.plan.specs.Checks.{large, plan_error}
use Rattle.choice.specs.Pair.{far_in}
use Rattle.legs.specs.Between.{between}
use Rattle.legs.proofs.Dims.{all_of, of_all}
use Rattle.legs.proofs.Box.{box}
use Rattle.rows.specs.declared.product.Places.{Places}
use Rattle.rows.specs.Rows.{in_rows, in_set, in_product}
use Rattle.rows.specs.Product.{Are}
use Rattle.sets.specs.Clear.{clear_in}
use Rattle.masks.specs.Span.{box_of}
use Rattle.masks.specs.Masks.{gather_at, Ended, Masked}
use Rattle.masks.proofs.Spans.{box_inside}
use Rattle.masks.proofs.Tables.{gathered}
use Rattle.search.specs.FirstVia.{is_via, FirstOf}
use Rattle.notes.specs.Rows.{Elsewhere, Put}
use Rattle.notes.specs.Known.{is_clear, OfPlan, IsAt, FromSet, ToBetween, BothTo, NoteTo, IsBox, NearLosses, LowestVia, Blocked, lower, via_note, Between, BetweenMade, Short, Faring, FarMasks, BySets, ByLosses}
use Rattle.search.specs.Number.{unclear}
use Rattle.notes.proofs.Knowing.{weights_ok, shape_ok, to_within, put_set, other_set}
use Rattle.notes.proofs.OnWays.{box_lowest}
use Rattle.notes.proofs.Values.{near_note, straight_note, few}
use Rattle.notes.proofs.ShortStep.{one_note, two_note}

-- The box of two nodes has just the nodes on the shortest ways between them.
pub is_box :
    (p : List ℕ) (s : Shape) (S D : ℕ) (a t : Coords) → plan_error large p ≡ 0 → s ≡ shape_of p → IsAt p S a → IsAt p D t → (b : Places) → b ≡ box_of s a t →
    IsBox p S D b.x b.y b.z
is_box p s S D a t h e from to b q v l = (λ i. way.1 (all_of f (sym product ∙ i)), λ w. product ∙ of_all f (way.0 w))
  where
    ok : shape_error (shape_of p) ≡ 0
    ok = shape_ok p h

    f : Dim → Bool
    f d = between (extent_of (shape_of p) d) (wrapped_in (shape_of p) d) (along (shape_of p) v d) (along (shape_of p) S d) (along (shape_of p) D d)

    way : (hops (shape_of p) S v + hops (shape_of p) v D ≡ hops (shape_of p) S D) ↔ ((d : Dim) → f d ≡ true)
    way = box (shape_of p) ok S v D from.node l to.node

    made : b ≡ box_of (shape_of p) (coords_of (shape_of p) S) (coords_of (shape_of p) D)
    made = q ∙ rw (e, from.at, to.at)

    product : in_product b.x b.y b.z (coords_of (shape_of p) v) ≡ (f X && (f Y && f Z))
    product =
        ap (λ (k : Places). in_product k.x k.y k.z (coords_of (shape_of p) v)) made
        ∙ box_inside (shape_of p) ok (coords_of (shape_of p) S) (coords_of (shape_of p) D) (coords_of (shape_of p) v) (inside (shape_of p) ok S from.node) (inside (shape_of p) ok D to.node) (inside (shape_of p) ok v l)

pub length_is_law :
    (p : List ℕ) (w : Weights) (s : Shape) (S D : ℕ) (a t : Coords) (len : ℕ) → plan_error large p ≡ 0 → w ≡ weights_of p → s ≡ shape_of p → IsAt p S a → IsAt p D t → len ≡ distance_word w s a t →
    len ≡ far_in p S D
length_is_law p w s S D a t len h ew e from to q =
    q ∙ rw (ew, e, from.at, to.at) (distance_word_law (weights_of p) (weights_ok p h) (shape_of p) (shape_ok p h) S D from.node to.node)

pub small_at : (p : List ℕ) (n : ℕ) (c : Coords) → plan_error large p ≡ 0 → IsAt p n c → (c.x < 16) × (c.y < 16) × (c.z < 16)
small_at p n c h a =
    let i : Inside (shape_of p) c = rw a.at (inside (shape_of p) (shape_ok p h) n a.node) in
    (omega (arith, i.x, (sound (shape_of p) (shape_ok p h) X).high), omega (arith, i.y, (sound (shape_of p) (shape_ok p h) Y).high), omega (arith, i.z, (sound (shape_of p) (shape_ok p h) Z).high))

-- The bit of the destination.
pub has_is : (p : List ℕ) (m : Mode) (rows : List ℕ) (S D : ℕ) (t : Coords) → FromSet p m S rows → IsAt p D t → (b : Bool) → b ≡ in_rows rows 0 t → b ≡ is_clear p m S D
unfolding in_set
has_is p m rows S D t g to b e = e ∙ ap (in_rows rows 0) to.at ∙ g D to.node

-- A set made within the box, by losses that stand for all there.
pub within_box : (p : List ℕ) (s : Shape) (words : List ℕ) (count : ℕ) (near : List ℕ) (n S D : ℕ) (t : Coords) (bx by bz : ℕ) (m : Mode) (masks rows : List ℕ) →
    OfPlan p s words count → NearLosses p S D words count near n → IsAt p D t → IsBox p S D bx by bz → Ended m false s t masks → Are (clear_in bx by bz masks near n) rows → ToBetween p m S D rows 0
within_box p s words count near n S D t bx by bz m masks rows k g to b e r v l w = to_within p s words count k D t to m masks rows bx by bz near n g.few e r v l ((b v l).1 w) (g.same m v l w)

-- All losses stand for all.
pub all_near : (p : List ℕ) (s : Shape) (words : List ℕ) (count : ℕ) → OfPlan p s words count → (S D : ℕ) → NearLosses p S D words count words count
all_near p s words count k S D = record { few = k.losses.few; same = λ m v l w. refl }

pub gathered_at : (p : List ℕ) (s : Shape) (D : ℕ) (t : Coords) (table masks : List ℕ) → plan_error large p ≡ 0 → IsAt p D t → (m : Mode) (from : Bool) → Masked m from s table → ((i : ℕ) → i < 288 → get_or masks i 0 ≡ gather_at table t i) → Ended m from s t masks
gathered_at p s D t table masks h to m from full g = let k = small_at p D t h to in gathered m from s table masks t full k.0 k.1 k.2 g

-- ---- the set of the nodes on the shortest ways
pub between_made :
    (p : List ℕ) (m : Mode) (s : Shape) (S D : ℕ) (a t : Coords) (near : List ℕ) (n : ℕ) (ends run : List ℕ) (at : ℕ) → Between p m s S D a t near n ends run at →
    (b : Places) → b ≡ box_of s a t → (set new : List ℕ) → Are (clear_in b.x b.y b.z ends near n) set → Put at set 256 run new → BetweenMade p m S D at run new
between_made p m s S D a t near n ends run at g b eb set new are put =
    let box = is_box p s S D a t g.of_plan.plan g.of_plan.shape g.source g.target b eb in
    record {
      rest = put.rest;
      set = λ v l e.
          put_set (shape_of p) (shape_ok p g.of_plan.plan) at set run new put v l
          ∙ within_box p s g.words g.count near n S D t b.x b.y b.z m ends set g.of_plan g.standing g.target box g.ended are v l e;
    }

-- ---- the lowest via in it
module _ (p : List ℕ) (s : Shape) (S D : ℕ) (a t : Coords) (h : plan_error large p ≡ 0) (es : s ≡ shape_of p) (from : IsAt p S a) (end : IsAt p D t) (fa to : List ℕ) (at : ℕ)
    (out : FromSet p Adaptive S fa) (back : ToBetween p Adaptive S D to at) (room : at + 256 ≤ length to) (b : Places) (eb : b ≡ box_of s a t)
    (via : ℕ) (first : FirstOf (node_count s) (is_via s b.x b.y b.z fa to at) via) where
  pub lowest_here : LowestVia p Adaptive Adaptive S D via
  lowest_here = box_lowest p s Adaptive Adaptive S D b.x b.y b.z fa to at es h room via first (is_box p s S D a t h es from end b eb) out back

  pub here_near : via < 4096 → NoteTo p S D via
  here_near = near_note p S D h from.node end.node via lowest_here

  module _ (straight : Bool) (one : straight ≡ is_clear p Deterministic S D) (none : 4096 ≤ via) where
    pub here_straight : straight ≡ true → NoteTo p S D unclear
    here_straight e = straight_note p S D h from.node end.node via lowest_here none (sym one ∙ e)

    pub here_blocked : straight ≡ false → Blocked p S D
    here_blocked e = record { straight = sym one ∙ e; ways = λ v l w. lowest_here.before v l (omega (arith, few p S D h from.node end.node)) w }

-- ---- the lowest with deterministic legs
module _ (p : List ℕ) (s : Shape) (S D bx by bz : ℕ) (fa fd to : List ℕ) (at : ℕ) (g : Short p s S D bx by bz fa fd to at)
    (first second : ℕ) (lf : FirstOf (node_count s) (is_via s bx by bz fa to (at + 256)) first) (ls : FirstOf (node_count s) (is_via s bx by bz fd to at) second) where
  lowest_first : LowestVia p Adaptive Deterministic S D first
  lowest_first = box_lowest p s Adaptive Deterministic S D bx by bz fa to (at + 256) g.shape g.plan (omega (arith, g.both.room)) first lf g.box g.adaptive g.both.deterministic

  lowest_second : LowestVia p Deterministic Adaptive S D second
  lowest_second = box_lowest p s Deterministic Adaptive S D bx by bz fd to at g.shape g.plan (omega (arith, g.both.room)) second ls g.box g.deterministic g.both.adaptive

  pub one_of : (one r : ℕ) → one ≡ lower first second → r ≡ via_note one 1 → one < 4096 → NoteTo p S D r
  one_of one r e f m = one_note p S D g.plan g.source g.target g.blocked first second lowest_first lowest_second r (f ∙ ap (λ x. via_note x 1) e) (omega arith)

  pub two_of : (one : ℕ) → one ≡ lower first second → 4096 ≤ one → (third : ℕ) → FirstOf (node_count s) (is_via s bx by bz fd to (at + 256)) third → (r : ℕ) → r ≡ via_note third 2 → r < unclear → NoteTo p S D r
  two_of one e none third lt =
      two_note p S D g.plan g.source g.target g.blocked first second lowest_first lowest_second third
      (box_lowest p s Deterministic Deterministic S D bx by bz fd to (at + 256) g.shape g.plan (omega (arith, g.both.room)) third lt g.box g.deterministic g.both.deterministic)
      (omega arith)

-- ---- by the masks
module _ (p : List ℕ) (w : Weights) (s : Shape) (words : List ℕ) (count S D : ℕ) (a t : Coords) (near : List ℕ) (n : ℕ) (adaptive deterministic fa fd run : List ℕ)
    (g : FarMasks p w s words count S D a t near n adaptive deterministic fa fd run) where
  abbrev k : OfPlan p s words count
  k = g.ends.of_plan

  pub masks_between : Between p Deterministic s S D a t near n deterministic run 256
  masks_between = record { words = words; count = count; of_plan = k; standing = g.standing; source = g.source; target = g.ends.node; ended = g.ends.deterministic; room = omega (arith, g.set.0) }

  -- The set at the front stays where others are put.
  pub masks_front : (new : List ℕ) → BetweenMade p Deterministic S D 256 run new → ToBetween p Adaptive S D new 0
  masks_front new made v l e = other_set (shape_of p) (shape_ok p k.plan) 256 256 0 run new made.rest (inl (omega arith)) v l ∙ g.set.1 v l e

  pub masks_behind : (new last : List ℕ) → BetweenMade p Deterministic S D 256 run new → Elsewhere 512 512 new last → ToBetween p Adaptive S D last 0
  masks_behind new last made rest v l e = other_set (shape_of p) (shape_ok p k.plan) 512 512 0 new last rest (inl (omega arith)) v l ∙ masks_front new made v l e

  pub masks_short : (new : List ℕ) → BetweenMade p Deterministic S D 256 run new → (b : Places) → b ≡ box_of s a t → Short p s S D b.x b.y b.z fa fd new 0
  masks_short new made b eb = record {
    plan = k.plan;
    shape = k.shape;
    source = g.source.node;
    target = g.ends.node.node;
    box = is_box p s S D a t k.plan k.shape g.source g.ends.node b eb;
    adaptive = g.out;
    deterministic = g.straight;
    both = record {
      room = omega (arith, g.set.0, made.rest.long);
      adaptive = masks_front new made;
      deterministic = made.set;
    };
    blocked = g.blocked;
  }

  pub masks_faring : (new : List ℕ) (at : ℕ) → BothTo p D new at → Faring p w s S D a t fa fd new at
  masks_faring new at both = record { plan = k.plan; weights = g.weights; shape = k.shape; source = g.source; target = g.ends.node; adaptive = g.out; deterministic = g.straight; both = both; blocked = g.blocked.straight }

-- ---- by the sets to all nodes
module _ (p : List ℕ) (w : Weights) (s : Shape) (work : List ℕ) (S D : ℕ) (a t : Coords) (fa fd : List ℕ) (straight : Bool) (g : BySets p w s work S D a t fa fd straight) (b : Places) (eb : b ≡ box_of s a t) where
  module _ (via : ℕ) (first : FirstOf (node_count s) (is_via s b.x b.y b.z fa work (512 * D)) via) where
    pub sets_near : via < 4096 → NoteTo p S D via
    sets_near = here_near p s S D a t g.plan g.shape g.source g.target fa work (512 * D) g.adaptive (λ v l _. g.both.adaptive v l) (omega (arith, g.both.room)) b eb via first

    pub sets_straight : 4096 ≤ via → straight ≡ true → NoteTo p S D unclear
    sets_straight = here_straight p s S D a t g.plan g.shape g.source g.target fa work (512 * D) g.adaptive (λ v l _. g.both.adaptive v l) (omega (arith, g.both.room)) b eb via first straight g.one

    pub sets_blocked : 4096 ≤ via → straight ≡ false → Blocked p S D
    sets_blocked = here_blocked p s S D a t g.plan g.shape g.source g.target fa work (512 * D) g.adaptive (λ v l _. g.both.adaptive v l) (omega (arith, g.both.room)) b eb via first straight g.one

  pub sets_short : Blocked p S D → Short p s S D b.x b.y b.z fa fd work (512 * D)
  sets_short blocked = record {
    plan = g.plan;
    shape = g.shape;
    source = g.source.node;
    target = g.target.node;
    box = is_box p s S D a t g.plan g.shape g.source g.target b eb;
    adaptive = g.adaptive;
    deterministic = g.deterministic;
    both = record { room = g.both.room; adaptive = λ v l _. g.both.adaptive v l; deterministic = λ v l _. g.both.deterministic v l };
    blocked = blocked;
  }

  pub sets_faring : Blocked p S D → Faring p w s S D a t fa fd work (512 * D)
  sets_faring blocked = record { plan = g.plan; weights = g.weights; shape = g.shape; source = g.source; target = g.target; adaptive = g.adaptive; deterministic = g.deterministic; both = g.both; blocked = blocked.straight }

-- ---- by the losses
module _ (p : List ℕ) (w : Weights) (s : Shape) (words : List ℕ) (count : ℕ) (near : List ℕ) (n : ℕ) (ta td : List ℕ) (S D : ℕ) (a t : Coords) (fa fd : List ℕ) (straight : Bool)
    (g : ByLosses p w s words count near n ta td S D a t fa fd straight) (masks : List ℕ) (gathered : (i : ℕ) → i < 288 → get_or masks i 0 ≡ gather_at ta t i) where
  ended : Ended Adaptive false s t masks
  ended = gathered_at p s D t ta masks g.of_plan.plan g.target Adaptive false g.masks gathered

  pub losses_between : (run : List ℕ) → 1024 ≤ length run → Between p Adaptive s S D a t near n masks run 0
  losses_between run room = record { words = words; count = count; of_plan = g.of_plan; standing = g.standing; source = g.source; target = g.target; ended = ended; room = omega arith }

  module _ (run new : List ℕ) (room : 1024 ≤ length run) (made : BetweenMade p Adaptive S D 0 run new) (b : Places) (eb : b ≡ box_of s a t)
      (via : ℕ) (first : FirstOf (node_count s) (is_via s b.x b.y b.z fa new 0) via) where
    long : 1024 ≤ length new
    long = omega (arith, made.rest.long)

    pub losses_near : via < 4096 → NoteTo p S D via
    losses_near = here_near p s S D a t g.of_plan.plan g.of_plan.shape g.source g.target fa new 0 g.adaptive made.set (omega (arith, long)) b eb via first

    pub losses_straight : 4096 ≤ via → straight ≡ true → NoteTo p S D unclear
    losses_straight = here_straight p s S D a t g.of_plan.plan g.of_plan.shape g.source g.target fa new 0 g.adaptive made.set (omega (arith, long)) b eb via first straight g.one

    pub losses_far : 4096 ≤ via → straight ≡ false → (others : List ℕ) → ((i : ℕ) → i < 288 → get_or others i 0 ≡ gather_at td t i) → FarMasks p w s words count S D a t near n masks others fa fd new
    losses_far none e others gathers = record {
      weights = g.weights;
      ends = record { of_plan = g.of_plan; node = g.target; adaptive = ended; deterministic = gathered_at p s D t td others g.of_plan.plan g.target Deterministic false g.others gathers };
      standing = g.standing;
      source = g.source;
      out = g.adaptive;
      straight = g.deterministic;
      set = (long, made.set);
      blocked = here_blocked p s S D a t g.of_plan.plan g.of_plan.shape g.source g.target fa new 0 g.adaptive made.set (omega (arith, long)) b eb via first straight g.one none e;
    }
