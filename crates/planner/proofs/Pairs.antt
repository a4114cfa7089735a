-- Planning a pair: its checks, and the answer.
use Prim.Native.Nat.{ℕ, zero, suc, ◌+◌, ◌*◌, ◌/◌, ◌%◌, ◌≤◌, ◌<◌}
use native.Mathlib.Omega.{arith}
use mathlib.Core.Path.{◌≡◌, refl, sym, ap, ◌∙◌}
use mathlib.Core.Logic.{inl, inr}
use mathlib.Core.Bool.{Bool, true, false, not, ◌&&◌, ◌||◌}
use mathlib.Core.List.{List}
use lib.ListN.{length, get_or}
use Rattle.theory.proofs.Cases.{test}
use Rattle.std.proofs.Math.Option.{Option, none, some}
use Rattle.numbers.specs.Numbers.{node_outside, dead_end, no_clear_choice}
use Rattle.numbers.specs.declared.Refusal.{Refusal}
use Rattle.numbers.specs.Refusals.{number}
use Rattle.sheet.proofs.Outputs.{of_number}
use Rattle.theory.specs.Checks.{declined, ◌then◌}
use Rattle.shape.specs.declared.shape.Shape.{Shape}
use Rattle.shape.specs.declared.shape.Coords.{Coords}
use Rattle.theory.specs.Machine.{sum_by}
use Rattle.packet.specs.declared.route.Route.{Route}
use Rattle.machine.specs.Hop.{rule}
use Rattle.weights.specs.declared.weights.Weights.{Weights}
use Rattle.weights.specs.Steps.{distance_word}
use Rattle.machine.specs.declared.leg.Mode.{Mode}
use Rattle.machine.specs.declared.leg.Mode.TheVariants.{Adaptive, Deterministic}
use Rattle.machine.specs.Node.{is_node, coords_answer}
use Rattle.machine.specs.Number.{node_count, coords_of}
use Rattle.machine.proofs.Nodes.{node_of}
use Rattle.machine.proofs.Laws.{hops_self}
use Rattle.plan.specs.Layout.{shape_of, weights_of, faults_of}
use Rattle.plan.specs.Checks.{large, plan_error}
use Rattle.dead.specs.Dead.{dead_node}
use Rattle.choice.specs.declared.outcome.Outcome.{Outcome}
use Rattle.choice.specs.Answer.{Answer, Refused, answered}
use Rattle.choice.specs.Choice.{Choice}
use Rattle.choice.specs.Outcome.{told, told_as, outcome_number}
use Rattle.choice.proofs.Told.{refused-told}
use Rattle.choice.specs.Pair.{sound_in, far_in, route_in, pair_error, chosen, pair}
use Rattle.choice.proofs.AtTorus.{far_lengths, direct_first}
use Rattle.losses.specs.Loss.{on_leg}
use Rattle.losses.specs.OfPlan.{AreLosses}
use Rattle.losses.proofs.AtPlan.{clear_is}
use Rattle.rows.specs.Bits.{bit}
use Rattle.rows.specs.Rows.{in_rows, in_set, in_product}
use Rattle.rows.specs.Product.{node_at, Less, product}
use Rattle.rows.specs.declared.product.Places.{Places}
use Rattle.masks.specs.Span.{box_of}
use Rattle.masks.specs.Masks.{Ended}
use Rattle.search.specs.FirstVia.{is_via, FirstOf}
use Rattle.notes.specs.Known.{is_clear, OfPlan, IsAt, FromSet, NoteTo, Between, BetweenMade}
use Rattle.first_clear.specs.Known.{route_told, Noted, NotedBetween, TwoTo, Apart}
use Rattle.notes.proofs.Knowing.{shape_ok, row_small}
use Rattle.notes.proofs.Destination.{is_box, length_is_law, small_at, all_near, here_near}
use Rattle.first_clear.proofs.Own.{by_own}
use Rattle.planner.specs.Known.{NotesMade, TwosMade, Twos, Ends, Beside}

-- ---- the checks of a pair
-- None of them declines.
pub record Accepted (p : List ℕ) (S D : ℕ) : Type 0 where
  pub plan : plan_error large p ≡ 0
  pub source : is_node (shape_of p) S ≡ true
  pub target : is_node (shape_of p) D ≡ true
  pub alive : dead_node (faults_of p) S ≡ false

accepts :
    (p : List ℕ) (S D e : ℕ) (a b c d : Bool) → (e then declined (not a || not b) node_outside then declined (c || d) dead_end then 0) ≡ 0 → (e ≡ 0) × (a ≡ true) × (b ≡ true) × (c ≡ false)
accepts p S D zero true true false d h = (refl, refl, refl, refl)
accepts p S D zero true true true d h = absurd (omega arith)
accepts p S D zero true false c d h = absurd (omega arith)
accepts p S D zero false b c d h = absurd (omega arith)
accepts p S D (suc e) a b c d h = absurd (omega arith)

pub accepted : (p : List ℕ) (S D : ℕ) → pair_error large p S D ≡ 0 → Accepted p S D
unfolding pair_error
accepted p S D h =
    let k = accepts p S D (plan_error large p) (is_node (shape_of p) S) (is_node (shape_of p) D) (dead_node (faults_of p) S) (dead_node (faults_of p) D) h in
    record { plan = k.0; source = k.1; target = k.2; alive = k.3 }

-- ---- the answer
answered_number : (e : Refusal) (x : Answer) → answered (number e) x ≡ Refused (number e)
unfolding answered
answered_number e x = of_number (λ n. answered n x ≡ Refused n) (λ n. refl) e

declined_pair : (p : List ℕ) (S D : ℕ) (e : Refusal) → number e ≡ pair_error large p S D → pair large p S D ≡ Refused (number e)
unfolding pair
declined_pair p S D e q = rw (sym q) (answered_number e (chosen (route_in p S D)))

same_number : (m n : ℕ) → Refused m ≡ Refused n → m ≡ n
same_number m n e = cc

-- Its number is that of the answer.
pub refused_pair :
    (p : List ℕ) (S D : ℕ) (e : Refusal) → number e ≡ pair_error large p S D →
    record { value : Outcome.Refused e ≡ told (far_in p) S (pair large p S D); number : (n : ℕ) → pair large p S D ≡ Refused n → number e ≡ n }
refused_pair p S D e q = record {
  value = rw (declined_pair p S D e q) (refused-told (far_in p) S (number e) e refl);
  number = λ n r. same_number (number e) n (sym (declined_pair p S D e q) ∙ r);
}

chosen_pair : (p : List ℕ) (S D : ℕ) → pair_error large p S D ≡ 0 → pair large p S D ≡ chosen (route_in p S D)
unfolding pair answered
chosen_pair p S D h = rw h

none_chosen : (c : Option Choice) (n : ℕ) → chosen c ≡ Refused n → n ≡ no_clear_choice
none_chosen none n e = cc
none_chosen (some c) n e = let z : ◌≡◌ {A = ℕ} 0 1 = cc in absurd (omega arith)

told_none : (far : ℕ → ℕ → ℕ) (S : ℕ) → outcome_number (told far S (Refused no_clear_choice)) ≡ no_clear_choice
unfolding told
told_none far S = refl

-- ---- what is worked out of an accepted pair
pub node_at_law : (p : List ℕ) (s : Shape) (n : ℕ) (c : Coords) → s ≡ shape_of p → is_node (shape_of p) n ≡ true → c ≡ coords_answer s n → IsAt p n c
node_at_law p s n c e k q = record { node = (node_of (shape_of p) n k).below; at = q ∙ rw (e, k) }

module _ (p : List ℕ) (S D : ℕ) (zero : pair_error large p S D ≡ 0) where
  A : Accepted p S D
  A = accepted p S D zero

  pub known : (s : Shape) → s ≡ shape_of p → (words : List ℕ) (count : ℕ) → AreLosses p words count → OfPlan p s words count
  known s es words count l = record { plan = A.plan; shape = es; losses = l }

  pub from_at : (s : Shape) → s ≡ shape_of p → (c : Coords) → c ≡ coords_answer s S → IsAt p S c
  from_at s es c q = node_at_law p s S c es A.source q

  pub to_at : (s : Shape) → s ≡ shape_of p → (c : Coords) → c ≡ coords_answer s D → IsAt p D c
  to_at s es c q = node_at_law p s D c es A.target q

  pub source_alive : dead_node (faults_of p) S ≡ false
  source_alive = A.alive

  pub paired : (r : Outcome) → r ≡ route_told p S D → record { value : r ≡ told (far_in p) S (pair large p S D); number : (n : ℕ) → pair large p S D ≡ Refused n → outcome_number r ≡ n }
  paired r q =
      let value : r ≡ told (far_in p) S (pair large p S D) = q ∙ ap (told (far_in p) S) (sym (chosen_pair p S D zero)) in
      record {
        value = value;
        number = λ n e.
            let en = none_chosen (route_in p S D) n (sym (chosen_pair p S D zero) ∙ e) in
            ap outcome_number (value ∙ ap (told (far_in p) S) (e ∙ ap Refused en)) ∙ told_none (far_in p) S ∙ sym en;
      }

-- ---- the first steps of a pair
module _ {p : List ℕ} {w : Weights} (ew : w ≡ weights_of p) {s : Shape} {words : List ℕ} {count : ℕ} (k : OfPlan p s words count) {S D : ℕ} {a t : Coords} (from : IsAt p S a) (to : IsAt p D t) where
  -- The test of a single leg.
  pub leg_is : (m : Mode) (b : Bool) → b ≡ not (on_leg rule m s words count a t) → b ≡ is_clear p m S D
  leg_is m b e = e ∙ rw (k.shape, from.at, to.at) (sym (clear_is p k.plan words count k.losses S D from.node to.node m))

  pub direct_told : (b : Bool) → b ≡ not (on_leg rule Adaptive s words count a t) → b ≡ true → (len : ℕ) → len ≡ distance_word w s a t → Outcome.Given (Route.Direct Adaptive) len ≡ route_told p S D
  unfolding told told_as sum_by
  direct_told b e y len q =
      let c = sym (leg_is Adaptive b e) ∙ y in
      let route = direct_first (far_in p) (shape_of p) (far_lengths large p k.plan) (shape_ok p k.plan) (sound_in p) S D from.node to.node c in
      let d = length_is_law p w s S D a t len k.plan ew k.shape from to q in
      rw route (ap (Outcome.Given (Route.Direct Adaptive)) (omega arith))

  -- ---- the lowest via between the ends
  pub pair_between : (masks run : List ℕ) → Ended Adaptive false s t masks → 256 ≤ length run → Between p Adaptive s S D a t words count masks run 0
  pair_between masks run ended room = record {
    words = words;
    count = count;
    of_plan = k;
    standing = all_near p s words count k S D;
    source = from;
    target = to;
    ended = ended;
    room = omega arith;
  }

  pub pair_via :
      (fa run new : List ℕ) → FromSet p Adaptive S fa → 256 ≤ length run → BetweenMade p Adaptive S D 0 run new → (b : Places) → b ≡ box_of s a t →
      (via : ℕ) → FirstOf (node_count s) (is_via s b.x b.y b.z fa new 0) via → via < 4096 → is_clear p Adaptive S D ≡ false →
      (len : ℕ) → len ≡ distance_word w s a t → Outcome.Given (Route.Via via Adaptive Adaptive) len ≡ route_told p S D
  pair_via fa run new out room made b eb via first low direct len el =
      let note = here_near p s S D a t k.plan k.shape from to fa new 0 out made.set (omega (arith, made.rest.long)) b eb via first low in
      let apart : Apart p s S D len = record {
        plan = k.plan;
        shape = k.shape;
        source = from.node;
        target = to.node;
        distance = length_is_law p w s S D a t len k.plan ew k.shape from to el;
        direct = direct;
      } in
      by_own p s S D len apart via note low

-- ---- the nodes between the ends of a pair
pub beside_is :
    (p : List ℕ) (s : Shape) (S D : ℕ) (a t : Coords) → Ends p s S D a t → (b : Places) → b ≡ box_of s a t → (old new : List ℕ) → length old ≡ 256 → Less (product b.x b.y b.z) old new → Beside p S D new
unfolding in_set in_rows product
beside_is p s S D a t g b eb old new long less w l way =
    let c = coords_of (shape_of p) w in
    let r = c.y + 16 * c.z in
    let k = small_at p w c g.plan (record { node = l; at = refl }) in
    let box = (is_box p s S D a t g.plan g.shape g.source g.target b eb w l).1 way in
    let ey : r % 16 ≡ c.y = low_place c.y c.z k.1 in
    let ez : r / 16 ≡ c.z = high_place c.y c.z k.1 in
    let same : node_at r c.x ≡ c = rw (ey, ez) refl in
    let in-box : in_product b.x b.y b.z (node_at r c.x) ≡ true = rw same box in
    let z : 0 + r ≡ r = omega arith in
    rw z (less.bits long r c.x (omega (arith, row_small (shape_of p) (shape_ok p g.plan) w l)) k.0 ∙ rw in-box (and_false (bit (get_or old r 0) c.x)))
  where
    low_place : (y z : ℕ) → y < 16 → (y + 16 * z) % 16 ≡ y
    low_place y z h = omega arith

    high_place : (y z : ℕ) → y < 16 → (y + 16 * z) / 16 ≡ z
    high_place y z h = omega arith

    and_false : (x : Bool) → (x && false) ≡ false
    and_false true = refl
    and_false false = refl

-- The notes of the nodes between are made, D's among them; and the notes of all.
module _ (p : List ℕ) (S : ℕ) (notes : List ℕ) where
  pub between_noted : (D : ℕ) (skip : List ℕ) → NotesMade p S skip notes → Beside p S D skip → NotedBetween p S D notes
  between_noted D skip made beside w l way = made.outside w l (beside w l way)

  pub own_noted : (D : ℕ) → D < node_count (shape_of p) → NotedBetween p S D notes → NoteTo p S D (get_or notes D 0)
  own_noted D l noted = noted D l (omega (arith, hops_self (shape_of p) D))

  pub all_twos : (fa twos : List ℕ) → FromSet p Adaptive S fa → TwosMade p S fa notes twos → Twos p S notes twos
  all_twos fa twos out made w l direct =
      made.each w l (out w l ∙ direct) (λ v lv way. test (in_set (shape_of p) fa 0 v) (λ y. inr (sym (out v lv) ∙ y)) (λ n. inl n)) direct

  pub all_noted : (fa : List ℕ) → FromSet p Adaptive S fa → NotesMade p S fa notes → Noted p S notes
  all_noted fa out made w l = test (in_set (shape_of p) fa 0 w) (λ y. made.direct w l (sym (out w l) ∙ y)) (λ n. made.outside w l n)

-- ---- what the steps of a pair rest on
module _ (p : List ℕ) (S D : ℕ) (here : D < node_count (shape_of p)) (skip notes : List ℕ) (beside : Beside p S D skip) where
  -- Every node between the ends is noted, so D has its two vias.
  pub pair_two : (twos : List ℕ) → is_clear p Adaptive S D ≡ false → TwosMade p S skip notes twos → 4096 ≤ get_or notes D 0 → TwoTo p S D (get_or twos D 0)
  pair_two twos direct made over = made.each D here (beside D here (omega (arith, hops_self (shape_of p) D))) (λ v l way. inl (beside v l way)) direct over

  pub pair_own : NotesMade p S skip notes → NoteTo p S D (get_or notes D 0)
  pair_own made = own_noted p S notes D here (between_noted p S notes D skip made beside)
