-- Planning one destination: what is known of it.
use Prim.Native.Nat.{ℕ, ◌+◌, ◌*◌, ◌≤◌, ◌<◌}
use native.Mathlib.Omega.{arith}
use mathlib.Core.Path.{◌≡◌, refl, sym, ap, ◌∙◌}
use mathlib.Core.Logic.{inl, inr, ⊎_elim}
use mathlib.Core.Bool.{Bool, true, false, true≢false}
use mathlib.Core.List.{List}
use lib.ListN.{length, get_or}
use lib.Dec.{eqb}
use borrow.Author.Tests.{eq-eqb, eqb-true, eqb-false}
use Rattle.std.specs.Prelude.{Option, Some}
use Rattle.numbers.specs.declared.Refusal.TheVariants.{DeadEnd}
use Rattle.theory.specs.Machine.{sum_by}
use Rattle.theory.proofs.Cases.{test}
use Rattle.shape.specs.declared.shape.Shape.{Shape}
use Rattle.shape.specs.declared.shape.Coords.{Coords}
use Rattle.machine.specs.declared.leg.Mode.TheVariants.{Adaptive, Deterministic}
use Rattle.machine.specs.Node.{is_node}
use Rattle.machine.specs.Number.{node_count}
use Rattle.weights.specs.declared.weights.Weights.{Weights}
use Rattle.weights.specs.declared.ends.Ends.{Ends}
use Rattle.weights.specs.Steps.{distance_word}
use Rattle.plan.specs.Layout.{shape_of, weights_of, faults_of}
use Rattle.plan.specs.Checks.{large, plan_error}
use Rattle.plan.specs.Reading.{is_plan}
use Rattle.dead.specs.Dead.{dead_node, bit_of, node_answer}
use Rattle.dead.proofs.Table.{is_node_law}
use Rattle.packet.specs.declared.route.Route.{Route}
use Rattle.choice.specs.declared.outcome.Outcome.{Outcome}
use Rattle.choice.specs.Outcome.{told, told_as}
use Rattle.choice.specs.Pair.{far_in, pair}
use Rattle.rows.specs.Rows.{in_rows}
use Rattle.rows.specs.declared.product.Places.{Places}
use Rattle.masks.specs.Span.{box_of}
use Rattle.losses.proofs.DeadTarget.{dead_target}
use Rattle.search.specs.Number.{unclear}
use Rattle.notes.specs.Known as Notes
use Rattle.notes.specs.Known.{is_clear, IsAt, ToBetween, BothTo, NearLosses, NoteTo}
use Rattle.first_clear.specs.Known.{route_told, via_route, Near, Noted, NotedBetween, TwoTo, Apart, Pairing, Nearing, FarSets, FarLost}
use Rattle.first_clear.proofs.Own.{by_own}
use Rattle.first_clear.proofs.Steps.{given_near, via_low}
use Rattle.notes.proofs.Knowing.{shape_ok, nodes_few}
use Rattle.notes.proofs.Destination.{is_box, length_is_law, has_is, small_at}
use Rattle.planner.specs.Known.{Work, Ready}
use Rattle.planned_sheet.proofs.Planning.{Source, pair_dead, pair_alive}
use Rattle.planned_sheet.proofs.Unlisted.{pair_direct}

-- The byte of a node.
pub dead_byte : (p dead : List ℕ) → plan_error large p ≡ 0 → ((n : ℕ) → get_or dead n 0 ≡ bit_of (node_answer large p n)) → (n : ℕ) → get_or dead n 0 ≡ bit_of (dead_node (faults_of p) n)
unfolding is_plan
dead_byte p dead h nodes n = nodes n ∙ rw (eq-eqb (plan_error large p) 0 h)

module _ {p : List ℕ} {s : Shape} {words : List ℕ} {count : ℕ} {dead ta td work : List ℕ} {S : ℕ} {a : Coords} {fa fd : List ℕ} (g : Ready p s words count dead ta td work S a fa fd) {D : ℕ} {t : Coords} (to : IsAt p D t) where
  abbrev h : plan_error large p ≡ 0
  h = g.prepared.of_plan.plan

  pub source_is : Source large p S
  source_is = record { plan = h; node = is_node_law (shape_of p) S (record { sound = shape_ok p h; below = g.source.node }); alive = g.alive }

  pub target_is : is_node (shape_of p) D ≡ true
  target_is = is_node_law (shape_of p) D (record { sound = shape_ok p h; below = to.node })

  pub dest_small : D < 4096
  dest_small = omega (arith, to.node, nodes_few (shape_of p) (shape_ok p h))

  dead_is : get_or dead D 0 ≡ bit_of (dead_node (faults_of p) D)
  dead_is = dead_byte p dead h g.prepared.nodes D

  pub dead_told : (get_or dead D 0 ≡ 0 → ⊥) → Outcome.Refused DeadEnd ≡ told (far_in p) S (pair large p S D)
  unfolding told
  dead_told ne =
      test (dead_node (faults_of p) D)
      (λ d. rw (pair_dead large p S source_is D target_is d) refl)
      (λ d. absurd (ne (dead_is ∙ ap bit_of d)))

  pub alive_told : get_or dead D 0 ≡ 0 → (o : Outcome) → o ≡ route_told p S D → o ≡ told (far_in p) S (pair large p S D)
  alive_told z o e =
      test (dead_node (faults_of p) D)
      (λ d. let q : ◌≡◌ {A = ℕ} 1 0 = sym (dead_is ∙ ap bit_of d) ∙ z in absurd (omega arith))
      (λ d. e ∙ sym (ap (told (far_in p) S) (pair_alive large p S source_is D target_is d)))

  -- The direct adaptive leg is clear, or not.
  pub direct_told : {w : Weights} → w ≡ weights_of p → (b : Bool) → b ≡ in_rows fa 0 t → b ≡ true → (len : ℕ) → len ≡ distance_word w s a t → Outcome.Given (Route.Direct Adaptive) len ≡ told (far_in p) S (pair large p S D)
  unfolding told told_as sum_by
  direct_told {w} ew b e y len q =
      let c = sym (has_is p Adaptive fa S D t g.adaptive to b e) ∙ y in
      let d = length_is_law p w s S D a t len h ew g.prepared.of_plan.shape g.source to q in
      rw (pair_direct p S source_is D target_is c) (ap (Outcome.Given (Route.Direct Adaptive)) (omega arith))

  pub not_direct : (b : Bool) → b ≡ in_rows fa 0 t → b ≡ false → is_clear p Adaptive S D ≡ false
  not_direct b e n = sym (has_is p Adaptive fa S D t g.adaptive to b e) ∙ n

  -- What a test of a set says of D.
  pub bit_at : (rows : List ℕ) (b : Bool) → (t.x < 16 → t.y < 16 → t.z < 16 → b ≡ in_rows rows 0 t) → b ≡ in_rows rows 0 t
  bit_at rows b e = let k = small_at p D t h to in e k.0 k.1 k.2

  -- ---- its note
  -- It needs none where the direct adaptive leg is clear, and a dead node has none.
  pub direct_note : (b : Bool) → b ≡ in_rows fa 0 t → b ≡ true → NoteTo p S D unclear
  direct_note b e y = record { real = λ k. absurd (omega arith); least = λ v l o k. inr (inl (sym (has_is p Adaptive fa S D t g.adaptive to b e) ∙ y)) }

  source_apart : dead_node (faults_of p) D ≡ true → S ≡ D → ⊥
  source_apart d e = true≢false (sym d ∙ ap (dead_node (faults_of p)) (sym e) ∙ g.alive)

  pub dead_note : (get_or dead D 0 ≡ 0 → ⊥) → NoteTo p S D unclear
  dead_note ne =
      test (dead_node (faults_of p) D)
      (λ d. record {
        real = λ k. absurd (omega arith);
        least = λ v l o k. test (eqb v D)
            (λ q. let e = eqb-true v D q in let c : is_clear p Deterministic S D ≡ true = rw (← e) o in absurd (true≢false (sym c ∙ dead_target p h S D g.source.node to.node d (source_apart d) Deterministic)))
            (λ q. absurd (true≢false (sym k ∙ dead_target p h v D l to.node d (eqb-false v D q) Deterministic)));
      })
      (λ d. absurd (ne (dead_is ∙ ap bit_of d)))

  -- ---- its two vias
  -- It has none where the direct adaptive leg is clear, and where it is dead.
  pub clear_apart : (b : Bool) → b ≡ in_rows fa 0 t → b ≡ true → is_clear p Adaptive S D ≡ false → ⊥
  clear_apart b e y c = true≢false (sym (sym (has_is p Adaptive fa S D t g.adaptive to b e) ∙ y) ∙ c)

  pub dead_apart : (get_or dead D 0 ≡ 0 → ⊥) → dead_node (faults_of p) D ≡ false → ⊥
  dead_apart ne d = ne (dead_is ∙ ap bit_of d)

  pub alive : get_or dead D 0 ≡ 0 → dead_node (faults_of p) D ≡ false
  alive z = test (dead_node (faults_of p) D) (λ d. let q : ◌≡◌ {A = ℕ} 1 0 = sym (dead_is ∙ ap bit_of d) ∙ z in absurd (omega arith)) (λ d. d)

  pub dead_two : (get_or dead D 0 ≡ 0 → ⊥) → is_clear p Adaptive S D ≡ false → TwoTo p S D unclear
  dead_two ne direct = test (dead_node (faults_of p) D)
      (λ d.
      let none : (v : ℕ) → v < node_count (shape_of p) → is_clear p Adaptive v D ≡ true → v ≡ D =
      λ v l c. test (eqb v D) (λ q. eqb-true v D q) (λ q. absurd (true≢false (sym c ∙ dead_target p h v D l to.node d (eqb-false v D q) Adaptive))) in
      record {
        given = λ k. absurd (omega arith);
        none = λ _ u x o.
            let ex = none x o.behind o.three in
            let eu = none u o.below (rw ex at o.two) in
            absurd (true≢false (sym (rw eu at o.one) ∙ direct));
      })
      (λ d. absurd (dead_apart ne d))

  pub pairing :
      is_clear p Adaptive S D ≡ false → (b : Places) → b ≡ box_of s a t → (set : List ℕ) (from : ℕ) → from + 256 ≤ length set → ToBetween p Adaptive S D set from →
      (notes : List ℕ) → NotedBetween p S D notes → 4096 ≤ get_or notes D 0 → Pairing p s S D b.x b.y b.z set from notes
  pairing direct b eb set from room back notes noted over = record {
    plan = h;
    shape = g.prepared.of_plan.shape;
    source = g.source.node;
    target = to.node;
    direct = direct;
    box = is_box p s S D a t h g.prepared.of_plan.shape g.source to b eb;
    back = back;
    room = room;
    over = over;
    noted = noted;
  }

  pub sets_to : Work p work → (length work ≡ 0 → ⊥) → BothTo p D work (512 * D)
  sets_to sets ne = ⊎_elim (λ z. absurd (ne z)) (λ f. f.each D to.node) sets

  pub between_in : (set : List ℕ) (from : ℕ) → BothTo p D set from → ToBetween p Adaptive S D set from
  between_in set from both v l _ = both.adaptive v l

  -- ---- its note and its route, where the direct adaptive leg is not clear
  module _ {w : Weights} (ew : w ≡ weights_of p) (direct : is_clear p Adaptive S D ≡ false) {ends : Ends} (ee : ends ≡ record { weights = w; shape = s; a = a; t = t }) where
    pub note_losses : (straight : Bool) → straight ≡ in_rows fd 0 t → (near : List ℕ) → NearLosses p S D words count near (length near) → Notes.ByLosses p ends.weights ends.shape words count near (length near) ta td S D ends.a ends.t fa fd straight
    note_losses straight es near some = rw ee (record {
      of_plan = g.prepared.of_plan;
      weights = ew;
      standing = some;
      masks = g.prepared.adaptive;
      others = g.prepared.deterministic;
      source = g.source;
      target = to;
      adaptive = g.adaptive;
      deterministic = g.deterministic;
      direct = direct;
      one = has_is p Deterministic fd S D t g.deterministic to straight es;
    })

    pub note_sets : (straight : Bool) → straight ≡ in_rows fd 0 t → Work p work → (length work ≡ 0 → ⊥) → Notes.BySets p ends.weights ends.shape work S D ends.a ends.t fa fd straight
    note_sets straight es sets ne = rw ee (record {
      plan = h;
      weights = ew;
      shape = g.prepared.of_plan.shape;
      source = g.source;
      target = to;
      adaptive = g.adaptive;
      deterministic = g.deterministic;
      both = sets_to sets ne;
      direct = direct;
      one = has_is p Deterministic fd S D t g.deterministic to straight es;
    })

    -- The last step, by the losses and by the sets.
    module _ (blocked : is_clear p Deterministic S D ≡ false) (notes : List ℕ) (note : ℕ) (own : note ≡ get_or notes D 0) where
      pub far_lost : Noted p S notes → FarLost p ends.weights ends.shape words count ta td S D ends.a ends.t fa note notes
      far_lost noted = rw ee (record {
        of_plan = g.prepared.of_plan;
        weights = ew;
        masks = g.prepared.adaptive;
        others = g.prepared.deterministic;
        source = g.source;
        target = to;
        adaptive = g.adaptive;
        direct = direct;
        blocked = blocked;
        own = own;
        noted = noted;
      })

      pub far_sets : Noted p S notes → Work p work → (length work ≡ 0 → ⊥) → FarSets p ends.weights ends.shape work S D ends.a ends.t fa note notes
      far_sets noted sets ne = rw ee (record {
        plan = h;
        weights = ew;
        shape = g.prepared.of_plan.shape;
        source = g.source;
        target = to;
        adaptive = g.adaptive;
        both = sets_to sets ne;
        direct = direct;
        blocked = blocked;
        own = own;
        noted = noted;
      })

  -- ---- its route, by its note
  module _ {w : Weights} (ew : w ≡ weights_of p) (direct : is_clear p Adaptive S D ≡ false) (note : ℕ) (own : NoteTo p S D note) (len : ℕ) (el : len ≡ distance_word w s a t) where
    apart : Apart p s S D len
    apart = record {
      plan = h;
      shape = g.prepared.of_plan.shape;
      source = g.source.node;
      target = to.node;
      distance = length_is_law p w s S D a t len h ew g.prepared.of_plan.shape g.source to el;
      direct = direct;
    }

    pub nearing : (straight : Bool) → straight ≡ in_rows fd 0 t → 4096 ≤ note → (n : ℕ) → TwoTo p S D n → Nearing p s S D len fa straight note n
    nearing straight es over n two = record { apart = apart; one = has_is p Deterministic fd S D t g.deterministic to straight es; out = g.adaptive; own = own; over = over; two = two }

    pub via_near : (r : Option Outcome) → r ≡ via_route note len → (o : Outcome) → r ≡ Some o → Near p S D (Some o)
    via_near r e o is = let k = via_low note len r e o is in given_near p S D o (k.1 ∙ by_own p s S D len apart note own k.0)
