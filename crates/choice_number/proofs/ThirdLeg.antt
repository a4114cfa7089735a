-- A third leg: the least of what each node as second via can reach, where that is better than every choice with fewer vias, is the first clear choice;
-- else the best via by itself is, where there is one.
use Prim.Native.Nat.{ℕ, ◌+◌, ◌*◌, ◌/◌, ◌<◌, ◌≤◌}
use native.Mathlib.Omega.{arith}
use mathlib.Core.Path.{◌≡◌, refl, sym, ap, ◌∙◌}
use mathlib.Core.Logic.{◌⊎◌, inl, inr, ⊎_elim}
use mathlib.Core.Bool.{Bool, true, false, ◌&&◌, true≢false}
use mathlib.Core.List.{[], ◌∷◌}
use mathlib.Core.Option.{none, some}
use lib.ListN.{length}
use borrow.Author.Tests.{lt-ltb, le-ltb, lt-leb, le-leb}
use Rattle.theory.specs.Machine.{end_by, sum_by}
use Rattle.theory.specs.Clear.{clear_by, clear}
use Rattle.theory.specs.Plan.{planned}
use Rattle.theory.proofs.Bools.{and_true}
use Rattle.theory.proofs.Cases.{test, by_le, by_order}
use Rattle.theory.proofs.Choice.{best_none, best_first, lex_less, lex_same}
use Rattle.shape.specs.declared.shape.Shape.{Shape}
use Rattle.shape.specs.Shape.{shape_error}
use Rattle.shape.proofs.Shapes.{count_most}
use Rattle.machine.specs.declared.leg.Leg.{Leg}
use Rattle.machine.specs.declared.leg.Mode.{Mode}
use Rattle.machine.specs.declared.leg.Mode.TheVariants.{Adaptive, Deterministic}
use Rattle.machine.specs.Number.{node_count}
use Rattle.machine.specs.Hop.{rule}
use Rattle.machine.specs.Torus.{leg, torus}
use Rattle.choice.specs.Choice.{Choice, most_vias, targets_of, vias_of, det, dets_of, length_from, key_of, before, AdmitsIn, choices}
use Rattle.choice.specs.Further.{clear_choice}
use Rattle.choice.specs.Search.{Lengths}
use Rattle.choice.specs.Pair.{route_by}
use Rattle.choice.proofs.Keys.{leg_inj, before_order, fewer_before}
use Rattle.choice.proofs.Listed.{admits_lists, lists_admits}
use Rattle.choice.proofs.AtTorus.{empty_adaptive}
use Rattle.choice.proofs.Search.{adaptive_clear}
use Rattle.search.specs.Number.{unclear, det_of}
use Rattle.choice_number.specs.Note.{is_clear_by, det_by, value_by, NoteBy, Note, reach_by, bound_of, over_of, bound_by}
use Rattle.choice_number.specs.Told.{mode_of}

pub det_low : (m : Mode) → det m ≤ 1
det_low Adaptive = omega arith
det_low Deterministic = omega arith

pub det_of_low : (b : Bool) → det_of b ≤ 1
det_of_low true = omega arith
det_of_low false = omega arith

mode_det : (b : Bool) → det (mode_of b) ≡ det_of b
mode_det true = refl
mode_det false = refl

same_mode : (m : Mode) (b : Bool) → det m ≡ det_of b → m ≡ mode_of b
same_mode Adaptive true e = refl
same_mode Adaptive false e = absurd (omega arith)
same_mode Deterministic true e = absurd (omega arith)
same_mode Deterministic false e = refl

pub node_small : (s : Shape) → shape_error s ≡ 0 → (v : ℕ) → v < node_count s → v < 4096
unfolding node_count
node_small s h v lt = omega (arith, count_most s h)

-- By way of a second via that reaches D below the bound the length is less than `over` above the distance.
four_up : (n : ℕ) → n ≤ 4 * ((n + 3) / 4)
four_up n = omega arith

bound_over : (x len : ℕ) → bound_of x len ≤ 16384 * (len + over_of x)
unfolding bound_of over_of
bound_over x len = by_le unclear x (λ high. rw (le-leb unclear x high) (omega arith)) (λ low. rw (lt-leb unclear x low) (omega (arith, four_up (x / 4096))))

pub reach_low :
    (far : ℕ → ℕ → ℕ) (clears : Leg → ℕ → Bool) (S D x w : ℕ) → reach_by far clears S D x w < unclear →
    (is_clear_by clears w D ≡ true) × (16384 * (far S w + far w D) ≤ reach_by far clears S D x w)
unfolding reach_by
reach_low far clears S D x w low = test (is_clear_by clears w D)
    (λ c. by_le unclear x
    (λ high. let z : reach_by far clears S D x w ≡ unclear = rw (c, le-ltb x unclear high) refl in absurd (omega arith))
    (λ few. let e : reach_by far clears S D x w ≡ x + 4096 * (4 * (far S w + far w D) + det_by clears w D) = rw (c, lt-ltb x unclear few) refl in (c, omega arith)))
    (λ c. let z : reach_by far clears S D x w ≡ unclear = rw c refl in absurd (omega arith))

pub reach_near :
    (far : ℕ → ℕ → ℕ) (clears : Leg → ℕ → Bool) (S D x w own : ℕ) → bound_by far S D own ≤ unclear → reach_by far clears S D x w < bound_by far S D own → far S w + far w D < far S D + over_of own
reach_near far clears S D x w own most low =
    omega (arith, (reach_low far clears S D x w (omega arith)).1, bound_over own (far S D))

-- ---- choices compared by the value, length and deterministic legs as one number
module _ (far : ℕ → ℕ → ℕ) (S : ℕ) where
  unfoldable pub value : Choice → ℕ
  value c = 4 * length_from far S c + dets_of c

  -- A lower value, of at most three deterministic legs each.
  pub lesser_before : (a b : Choice) → dets_of a ≤ 3 → dets_of b ≤ 3 → value a < value b → before far S a b ≡ true
  unfolding value key_of
  lesser_before a b la lb h =
      by_order (length_from far S a) (length_from far S b)
      (λ g. lex_less (length_from far S a) (length_from far S b) _ _ g)
      (λ q. lex_same (length_from far S a) (length_from far S b) _ _ q ∙ lex_less (dets_of a) (dets_of b) _ _ (omega arith))
      (λ g. absurd (omega arith))

  -- The same value, and the rest decides.
  pub equal_before :
      (a b : Choice) → dets_of a ≤ 3 → dets_of b ≤ 3 → value a ≡ value b → (length_from far S a ≡ length_from far S b → dets_of a ≡ dets_of b → before far S a b ≡ true) → before far S a b ≡ true
  unfolding value
  equal_before a b la lb e rest = rest (omega arith) (omega arith)

module _ (far : ℕ → ℕ → ℕ) (s : Shape) (F : Lengths s far) (h : shape_error s ≡ 0) (sound : ℕ → ℕ → Bool) (S D : ℕ) (h_s : S < node_count s) (h_d : D < node_count s)
    (blocked : clear (torus s) sound (leg D Deterministic) S ≡ false) where
  abbrev pub clears : Leg → ℕ → Bool
  clears = clear (torus s) sound

  -- A leg that is clear in some mode is clear deterministically, and has no fewer deterministic legs than its better mode.
  pub clear_some : (t u : ℕ) (m : Mode) → u < node_count s → t < node_count s → clears (leg t m) u ≡ true → (is_clear_by clears u t ≡ true) × (det_by clears u t ≤ det m)
  clear_some t u Adaptive lu lt c = (adaptive_clear rule s h sound t u lu lt c, rw c (omega arith))
  clear_some t u Deterministic lu lt c = (c, det_of_low (clears (leg t Adaptive) u))

  -- The better mode of a leg that is clear in some mode is clear.
  pub better_clear : (t u : ℕ) → is_clear_by clears u t ≡ true → clears (leg t (mode_of (clears (leg t Adaptive) u))) u ≡ true
  better_clear t u c = at (clears (leg t Adaptive) u) refl
    where
      at : (b : Bool) → clears (leg t Adaptive) u ≡ b → clears (leg t (mode_of b)) u ≡ true
      at true e = e
      at false e = c

  still_adaptive : (v : ℕ) → v < node_count s → det_by clears v v ≡ 0
  still_adaptive v lt = rw (empty_adaptive s h sound v lt) refl

  apart : S ≡ D → ⊥
  apart e = let c : clears (leg D Deterministic) S ≡ true = rw (← e) (adaptive_clear rule s h sound S S h_s h_s (empty_adaptive s h sound S h_s)) in true≢false (sym c ∙ blocked)

  not_adaptive : clears (leg D Adaptive) S ≡ true → ⊥
  not_adaptive c = true≢false (sym (adaptive_clear rule s h sound D S h_s h_d c) ∙ blocked)

  -- ---- an admitted clear choice by one via, and by two
  record OneVia (u : ℕ) (c : Choice) : Type 0 where
    below : u < node_count s
    out : is_clear_by clears S u ≡ true
    back : is_clear_by clears u D ≡ true
    worth : value_by far clears S u D ≤ value far S c
    dets : dets_of c ≤ 3
    vias : length (vias_of c) ≡ 1

  pub record TwoVias (u w : ℕ) (c : Choice) : Type 0 where
    pub below : u < node_count s
    pub behind : w < node_count s
    pub out : is_clear_by clears S u ≡ true
    pub on : is_clear_by clears u w ≡ true
    pub back : is_clear_by clears w D ≡ true
    pub worth : value_by far clears S u w + (4 * far w D + det_by clears w D) ≤ value far S c
    pub dets : dets_of c ≤ 3
    pub most : value far S c ≤ 4323
    pub vias : length (vias_of c) ≡ 2

  one_via_law : (l m : Leg) → AdmitsIn s S D (l ∷ m ∷ []) → clear_choice clears S (l ∷ m ∷ []) ≡ true → OneVia l.target (l ∷ m ∷ [])
  unfolding end_by clear_by vias_of dets_of sum_by value_by value
  one_via_law l m a c =
      let c1 = and_true (clears l S) (clears m l.target && true) c in
      let c2 = and_true (clears m l.target) true c1.1 in
      let lu = a.inside.0 in
      let to : m.target ≡ D = a.ends in
      let c3 : clears (leg D m.mode) l.target ≡ true = rw (← to) c2.0 in
      let one = clear_some l.target S l.mode h_s lu c1.0 in
      let two = clear_some D l.target m.mode lu h_d c3 in
      let same : far l.target m.target ≡ far l.target D = ap (far l.target) to in
      record {
        below = lu;
        out = one.0;
        back = two.0;
        worth = omega (arith, one.1, two.1);
        dets = omega (arith, det_low l.mode, det_low m.mode);
        vias = refl;
      }

  two_vias : (l m x : Leg) → AdmitsIn s S D (l ∷ m ∷ x ∷ []) → clear_choice clears S (l ∷ m ∷ x ∷ []) ≡ true → TwoVias l.target m.target (l ∷ m ∷ x ∷ [])
  unfolding end_by clear_by vias_of dets_of sum_by value_by value
  two_vias l m x a c =
      let c1 = and_true (clears l S) (clears m l.target && (clears x m.target && true)) c in
      let c2 = and_true (clears m l.target) (clears x m.target && true) c1.1 in
      let c3 = and_true (clears x m.target) true c2.1 in
      let lu = a.inside.0 in
      let lw = a.inside.1.0 in
      let to : x.target ≡ D = a.ends in
      let c4 : clears (leg D x.mode) m.target ≡ true = rw (← to) c3.0 in
      let one = clear_some l.target S l.mode h_s lu c1.0 in
      let two = clear_some m.target l.target m.mode lu lw c2.0 in
      let three = clear_some D m.target x.mode lw h_d c4 in
      let same : far m.target x.target ≡ far m.target D = ap (far m.target) to in
      record {
        below = lu;
        behind = lw;
        out = one.0;
        on = two.0;
        back = three.0;
        worth = omega (arith, one.1, two.1, three.1);
        dets = omega (arith, det_low l.mode, det_low m.mode, det_low x.mode);
        most = omega (arith, det_low l.mode, det_low m.mode, det_low x.mode, F.most S l.target h_s lu, F.most l.target m.target lu lw, F.most m.target D lw h_d);
        vias = refl;
      }

  -- No choice of one leg is clear.
  no_leg_law : (l : Leg) → AdmitsIn s S D (l ∷ []) → clear_choice clears S (l ∷ []) ≡ true → ⊥
  unfolding end_by clear_by
  no_leg_law l a c =
      let here : clears (leg D l.mode) S ≡ true = rw (← a.ends) (and_true (clears l S) true c).0 in
      true≢false (sym (clear_some D S l.mode h_s h_d here).0 ∙ blocked)

  value_small : (v w : ℕ) → v < node_count s → w < node_count s → value_by far clears S v w ≤ 2882
  unfolding value_by
  value_small v w lv lw = omega (arith, F.most S v h_s lv, F.most v w lv lw, det_of_low (clears (leg v Adaptive) S), det_of_low (clears (leg w Adaptive) v))

  -- ---- the best choice by one via, which D's own note says
  module _ (own : ℕ) (note : Note far clears (node_count s) S D own) where
    abbrev pub bound : ℕ
    bound = bound_by far S D own

    -- The note of D is that of all vias, since no direct leg is clear.
    least_one : (v : ℕ) → v < node_count s → is_clear_by clears S v ≡ true → is_clear_by clears v D ≡ true → own + 4096 * (4 * far S D) ≤ 4096 * value_by far clears S v D + v
    least_one v lv o b = ⊎_elim (λ le. le) (⊎_elim (λ c. absurd (not_adaptive c)) (λ c. absurd (true≢false (sym c.0 ∙ blocked)))) (note.least v lv o b)

    -- No choice by one via is below the bound.
    pub above_one : (v : ℕ) → v < node_count s → is_clear_by clears S v ≡ true → is_clear_by clears v D ≡ true → bound ≤ 4096 * value_by far clears S v D
    unfolding bound_of
    above_one v lv o b =
        let le = least_one v lv o b in
        let low : own < unclear = omega (arith, value_small v D lv h_d, node_small s h v lv) in
        rw (lt-leb unclear own low) (omega (arith, node_small s h v lv))

    -- The bound is a whole value.
    record Whole : Type 0 where
      worth : ℕ
      is : bound ≡ 4096 * worth

    whole : Whole
    unfolding bound_of
    whole = by_le unclear own
        (λ high. record { worth = 16384; is = rw (le-leb unclear own high) (omega arith) })
        (λ low. record { worth = own / 4096 + 4 * far S D; is = rw (lt-leb unclear own low) refl })

    pub bound_most : bound ≤ unclear
    unfolding bound_of
    bound_most = by_le unclear own
        (λ high. rw (le-leb unclear own high) (omega arith))
        (λ low. let r = note.real low in rw (lt-leb unclear own low) (omega (arith, r.is, value_small r.v D r.below h_d, node_small s h r.v r.below)))

    -- ---- no choice by two vias is better
    module _ (above_two : (u w : ℕ) (c : Choice) → TwoVias u w c → bound ≤ 4096 * value far S c) where
      -- With no via at all there is no clear choice.
      nothing : unclear ≤ own → (e : Choice) → AdmitsIn s S D e → clear_choice clears S e ≡ true → ⊥
      unfolding end_by clear_by vias_of bound_of
      nothing high [] a c = apart a.ends
      nothing high (l ∷ []) a c = no_leg_law l a c
      nothing high (l ∷ m ∷ []) a c =
          let t = one_via_law l m a c in
          omega (arith, least_one l.target t.below t.out t.back, value_small l.target D t.below h_d, node_small s h l.target t.below)
      nothing high (l ∷ m ∷ x ∷ []) a c =
          let t = two_vias l m x a c in
          let b : bound_by far S D own ≡ unclear = rw (le-leb unclear own high) refl in
          omega (arith, above_two l.target m.target (l ∷ m ∷ x ∷ []) t, t.most, b)
      nothing high (l ∷ m ∷ x ∷ y ∷ ls) a c = let few = a.few in omega arith

      pub by_none : unclear ≤ own → route_by far s sound S D ≡ none
      unfolding route_by planned
      by_none high = best_none (before far S) (before_order far S) (clear_choice clears S) (choices s S D)
          (λ e m. test (clear_choice clears S e) (λ t. absurd (nothing high e (lists_admits most_vias (node_count s) S D e m) t)) (λ t. t))

      module _ (low : own < unclear) where
        pub via : NoteBy far clears (node_count s) S D own
        via = note.real low

        abbrev pub n1 : Mode
        n1 = mode_of (clears (leg via.v Adaptive) S)

        abbrev pub n2 : Mode
        n2 = mode_of (clears (leg D Adaptive) via.v)

        abbrev pub single : Choice
        single = leg via.v n1 ∷ leg D n2 ∷ []

        single_value : value far S single ≡ value_by far clears S via.v D
        unfolding value value_by sum_by dets_of
        single_value = omega (arith, mode_det (clears (leg via.v Adaptive) S), mode_det (clears (leg D Adaptive) via.v))

        single_dets : dets_of single ≤ 3
        unfolding dets_of
        single_dets = omega (arith, det_low n1, det_low n2)

        single_bound : bound ≡ 4096 * value far S single
        unfolding bound_of
        single_bound = rw (lt-leb unclear own low) (omega (arith, single_value, via.is, node_small s h via.v via.below))

        off : via.v ≡ S → ⊥
        off e = let c : clears (leg D Deterministic) S ≡ true = rw (← e) via.back in true≢false (sym c ∙ blocked)

        off_end : via.v ≡ D → ⊥
        off_end e = let c : clears (leg D Deterministic) S ≡ true = sym (ap (λ x. clears (leg x Deterministic) S) e) ∙ via.out in true≢false (sym c ∙ blocked)

        single_admits : AdmitsIn s S D single
        unfolding end_by vias_of targets_of
        single_admits = record { ends = refl; few = omega arith; inside = (via.below, tt); apart = λ _. (((λ e. off (sym e)), (apart, tt)), ((off_end, tt), (tt, tt))); self = λ e. absurd (apart e) }

        same_via : (l m : Leg) → l.target ≡ via.v → m.target ≡ D → clear_choice clears S (l ∷ m ∷ []) ≡ true → dets_of single ≡ dets_of (l ∷ m ∷ []) → l ∷ m ∷ [] ≡ single
        unfolding clear_by dets_of
        same_via l m el em c same =
            let r = via in
            let c1 = and_true (clears l S) (clears m l.target && true) c in
            let c2 = and_true (clears m l.target) true c1.1 in
            let k1 : clears (leg r.v l.mode) S ≡ true = rw (← el) c1.0 in
            let k2 : clears (leg D m.mode) r.v ≡ true = rw (← el, ← em) c2.0 in
            let d1 = (clear_some r.v S l.mode h_s r.below k1).1 in
            let d2 = (clear_some D r.v m.mode r.below h_d k2).1 in
            let e1 = mode_det (clears (leg r.v Adaptive) S) in
            let e2 = mode_det (clears (leg D Adaptive) r.v) in
            let f1 : l.mode ≡ n1 = same_mode l.mode (clears (leg r.v Adaptive) S) (omega (arith, d1, d2, e1, e2, same)) in
            let f2 : m.mode ≡ n2 = same_mode m.mode (clears (leg D Adaptive) r.v) (omega (arith, d1, d2, e1, e2, same)) in
            let g1 : l ≡ leg r.v n1 = leg_inj l.target r.v l.mode n1 el f1 in
            let g2 : m ≡ leg D n2 = leg_inj m.target D m.mode n2 em f2 in
            cc (g1, g2)

        before_via : (l m : Leg) → AdmitsIn s S D (l ∷ m ∷ []) → clear_choice clears S (l ∷ m ∷ []) ≡ true → (l ∷ m ∷ [] ≡ single → ⊥) → via.v ≤ l.target →
            length_from far S single ≡ length_from far S (l ∷ m ∷ []) → dets_of single ≡ dets_of (l ∷ m ∷ []) → before far S single (l ∷ m ∷ []) ≡ true
        unfolding key_of vias_of targets_of end_by
        before_via l m a c ne le long same =
            lex_same (length_from far S single) (length_from far S (l ∷ m ∷ [])) _ _ long ∙ (lex_same (dets_of single) (dets_of (l ∷ m ∷ [])) _ _ same ∙ (lex_same 1 1 _ _ refl ∙
            by_order via.v l.target
            (λ g. lex_less via.v l.target _ _ g)
            (λ q. absurd (ne (same_via l m (sym q) a.ends c same)))
            (λ g. absurd (omega arith))))

        rest : (e : Choice) → AdmitsIn s S D e → clear_choice clears S e ≡ true → (e ≡ single → ⊥) → before far S single e ≡ true
        unfolding end_by clear_by vias_of
        rest [] a c ne = absurd (apart a.ends)
        rest (l ∷ []) a c ne = absurd (no_leg_law l a c)
        rest (l ∷ m ∷ []) a c ne =
            let t = one_via_law l m a c in
            let e = l ∷ m ∷ [] in
            let small = node_small s h l.target t.below in
            let le = least_one l.target t.below t.out t.back in
            by_order (value far S single) (value far S e)
            (λ g. lesser_before far S single e single_dets t.dets g)
            (λ q. equal_before far S single e single_dets t.dets q (before_via l m a c ne (omega (arith, single_value, via.is, le, t.worth, q))))
            (λ g. absurd (omega (arith, single_value, via.is, le, t.worth, g, small)))
        rest (l ∷ m ∷ x ∷ []) a c ne =
            let t = two_vias l m x a c in
            let e = l ∷ m ∷ x ∷ [] in
            let up = above_two l.target m.target e t in
            by_order (value far S single) (value far S e)
            (λ g. lesser_before far S single e single_dets t.dets g)
            (λ q. equal_before far S single e single_dets t.dets q (λ long same. fewer_before far S single e (omega arith) (omega arith) (omega (arith, t.vias))))
            (λ g. absurd (omega (arith, single_bound, up, g)))
        rest (l ∷ m ∷ x ∷ y ∷ ls) a c ne = let few = a.few in absurd (omega arith)

        pub by_one : route_by far s sound S D ≡ some single
        unfolding route_by planned clear_by
        by_one = best_first (before far S) (before_order far S) (clear_choice clears S) (choices s S D) single (record {
          listed = admits_lists most_vias (node_count s) S D single single_admits;
          passes = rw (better_clear via.v S via.out, better_clear D via.v via.back) refl;
          least = λ e m t ne. rest e (lists_admits most_vias (node_count s) S D e m) t ne;
        })

  -- ---- what each node as second via can reach
  module _ (notes : ℕ → ℕ) (noted : (w : ℕ) → w < node_count s → Note far clears (node_count s) S w (notes w)) where
    abbrev pub limit : ℕ
    limit = bound_by far S D (notes D)

    abbrev pub reach : ℕ → ℕ
    reach w = reach_by far clears S D (notes w) w

    -- From S to w at once, where that has no higher value than by u.
    at_once :
        (u w : ℕ) (c : Choice) → TwoVias u w c → is_clear_by clears S w ≡ true → 4 * far S w + det_by clears S w ≤ value_by far clears S u w → limit ≤ 4096 * value far S c
    unfolding value_by
    at_once u w c t o le =
        let worth = t.worth in
        let up = above_one (notes D) (noted D h_d) w t.behind o t.back in
        omega arith

    adaptive_value : (u w : ℕ) → clears (leg w Adaptive) S ≡ true → u < node_count s → w < node_count s → 4 * far S w + det_by clears S w ≤ value_by far clears S u w
    unfolding value_by
    adaptive_value u w a lu lw = let z : det_by clears S w ≡ 0 = rw a refl in omega (arith, F.triangle S u w h_s lu lw)

    straight_value : (u w : ℕ) → 4 * far S w < value_by far clears S u w → 4 * far S w + det_by clears S w ≤ value_by far clears S u w
    straight_value u w g = omega (arith, det_of_low (clears (leg w Adaptive) S))

    -- A choice by two vias is not below what its second one can reach, or it is not below the bound.
    two_least : (u w : ℕ) (c : Choice) → TwoVias u w c → (reach w ≤ 4096 * value far S c + u) ⊎ (limit ≤ 4096 * value far S c)
    unfolding reach_by
    two_least u w c t =
        let lu = t.below in
        let lw = t.behind in
        let worth = t.worth in
        ⊎_elim
        (λ le.
        let low : notes w < unclear = omega (arith, value_small u w lu lw, node_small s h u lu) in
        inl (rw (t.back, lt-ltb (notes w) unclear low) (omega (arith, le, worth))))
        (⊎_elim
        (λ a. inr (at_once u w c t (adaptive_clear rule s h sound w S h_s lw a) (adaptive_value u w a lu lw)))
        (λ a. inr (at_once u w c t a.0 (straight_value u w a.1))))
        ((noted w lw).least u lu t.out t.on)

    -- ---- by the first least
    module _ (w : ℕ) (lw : w < node_count s) (better : reach w < limit)
        (each : (x : ℕ) → x < node_count s → reach x < limit → reach w ≤ reach x) (first : (x : ℕ) → x < w → reach x < limit → reach w < reach x) where
      pub record Reached : Type 0 where
        pub v : ℕ
        pub below : v < node_count s
        pub out : is_clear_by clears S v ≡ true
        pub on : is_clear_by clears v w ≡ true
        pub back : is_clear_by clears w D ≡ true
        pub number : reach w ≡ 4096 * (value_by far clears S v w + (4 * far w D + det_by clears w D)) + v

      pub reached : Reached
      unfolding reach_by
      reached = test (is_clear_by clears w D)
          (λ c. by_le unclear (notes w)
          (λ high. let z : reach w ≡ unclear = rw (c, le-ltb (notes w) unclear high) refl in absurd (omega (arith, bound_most (notes D) (noted D h_d))))
          (λ low.
          let r = (noted w lw).real low in
          let e : reach w ≡ notes w + 4096 * (4 * (far S w + far w D) + det_by clears w D) = rw (c, lt-ltb (notes w) unclear low) refl in
          record { v = r.v; below = r.below; out = r.out; on = r.back; back = c; number = omega (arith, r.is, e) }))
          (λ c. let z : reach w ≡ unclear = rw c refl in absurd (omega (arith, bound_most (notes D) (noted D h_d))))

      abbrev pub m1 : Mode
      m1 = mode_of (clears (leg reached.v Adaptive) S)

      abbrev pub m2 : Mode
      m2 = mode_of (clears (leg w Adaptive) reached.v)

      abbrev pub m3 : Mode
      m3 = mode_of (clears (leg D Adaptive) w)

      abbrev pub choice : Choice
      choice = leg reached.v m1 ∷ leg w m2 ∷ leg D m3 ∷ []

      choice_value : value far S choice ≡ value_by far clears S reached.v w + (4 * far w D + det_by clears w D)
      unfolding value value_by sum_by dets_of
      choice_value = omega (arith, mode_det (clears (leg reached.v Adaptive) S), mode_det (clears (leg w Adaptive) reached.v), mode_det (clears (leg D Adaptive) w))

      number_is : reach w ≡ 4096 * value far S choice + reached.v
      number_is = omega (arith, choice_value, reached.number)

      dets_few : dets_of choice ≤ 3
      unfolding dets_of
      dets_few = omega (arith, det_low m1, det_low m2, det_low m3)

      under : 4096 * value far S choice < limit
      under = omega (arith, number_is)

      -- It has a lower value than every choice by one via, so no via is an end or the other via.
      below_one : (x : ℕ) → x < node_count s → is_clear_by clears S x ≡ true → is_clear_by clears x D ≡ true → value_by far clears S x D ≤ value far S choice → ⊥
      below_one x lx o b le = omega (arith, under, above_one (notes D) (noted D h_d) x lx o b)

      v_off : reached.v ≡ S → ⊥
      unfolding value_by
      v_off e =
          let r = reached in
          let on : is_clear_by clears S w ≡ true = rw (← e) r.on in
          let z : det_by clears S r.v ≡ 0 = ap (λ x. det_by clears S x) e ∙ still_adaptive S h_s in
          let f : far S r.v ≡ 0 = ap (far S) e ∙ F.still S in
          let g : far r.v w ≡ far S w = ap (λ x. far x w) e in
          let d : det_by clears r.v w ≡ det_by clears S w = ap (λ x. det_by clears x w) e in
          below_one w lw on r.back (omega (arith, choice_value))

      v_end : reached.v ≡ D → ⊥
      v_end e = let c : clears (leg D Deterministic) S ≡ true = rw (← e) reached.out in true≢false (sym c ∙ blocked)

      w_off : w ≡ S → ⊥
      w_off e = let c : clears (leg D Deterministic) S ≡ true = rw (← e) reached.back in true≢false (sym c ∙ blocked)

      w_end : w ≡ D → ⊥
      unfolding value_by
      w_end e =
          let r = reached in
          let on : is_clear_by clears r.v D ≡ true = sym (ap (λ x. is_clear_by clears r.v x) e) ∙ r.on in
          let f : far r.v w ≡ far r.v D = ap (far r.v) e in
          let d : det_by clears r.v w ≡ det_by clears r.v D = ap (det_by clears r.v) e in
          below_one r.v r.below r.out on (omega (arith, choice_value))

      v_w : reached.v ≡ w → ⊥
      unfolding value_by
      v_w e =
          let r = reached in
          let out : is_clear_by clears S w ≡ true = rw (← e) r.out in
          let f : far S r.v ≡ far S w = ap (far S) e in
          let d : det_by clears S r.v ≡ det_by clears S w = ap (det_by clears S) e in
          below_one w lw out r.back (omega (arith, choice_value))

      admits : AdmitsIn s S D choice
      unfolding end_by vias_of targets_of
      admits = record {
        ends = refl;
        few = omega arith;
        inside = (reached.below, (lw, tt));
        apart = λ _. (((λ e. v_off (sym e)), ((λ e. w_off (sym e)), (apart, tt))), ((v_w, (v_end, tt)), ((w_end, tt), (tt, tt))));
        self = λ e. absurd (apart e);
      }

      -- The vias decide among choices of one value; with the same vias the modes are the same.
      same_vias : (l m x : Leg) → l.target ≡ reached.v → m.target ≡ w → x.target ≡ D → clear_choice clears S (l ∷ m ∷ x ∷ []) ≡ true → dets_of choice ≡ dets_of (l ∷ m ∷ x ∷ []) → l ∷ m ∷ x ∷ [] ≡ choice
      unfolding clear_by dets_of
      same_vias l m x el em ex c same =
          let r = reached in
          let c1 = and_true (clears l S) (clears m l.target && (clears x m.target && true)) c in
          let c2 = and_true (clears m l.target) (clears x m.target && true) c1.1 in
          let c3 = and_true (clears x m.target) true c2.1 in
          let k1 : clears (leg r.v l.mode) S ≡ true = rw (← el) c1.0 in
          let k2 : clears (leg w m.mode) r.v ≡ true = rw (← el, ← em) c2.0 in
          let k3 : clears (leg D x.mode) w ≡ true = rw (← em, ← ex) c3.0 in
          let d1 = (clear_some r.v S l.mode h_s r.below k1).1 in
          let d2 = (clear_some w r.v m.mode r.below lw k2).1 in
          let d3 = (clear_some D w x.mode lw h_d k3).1 in
          let e1 = mode_det (clears (leg r.v Adaptive) S) in
          let e2 = mode_det (clears (leg w Adaptive) r.v) in
          let e3 = mode_det (clears (leg D Adaptive) w) in
          let f1 : l.mode ≡ m1 = same_mode l.mode (clears (leg r.v Adaptive) S) (omega (arith, d1, d2, d3, e1, e2, e3, same)) in
          let f2 : m.mode ≡ m2 = same_mode m.mode (clears (leg w Adaptive) r.v) (omega (arith, d1, d2, d3, e1, e2, e3, same)) in
          let f3 : x.mode ≡ m3 = same_mode x.mode (clears (leg D Adaptive) w) (omega (arith, d1, d2, d3, e1, e2, e3, same)) in
          let g1 : l ≡ leg r.v m1 = leg_inj l.target r.v l.mode m1 el f1 in
          let g2 : m ≡ leg w m2 = leg_inj m.target w m.mode m2 em f2 in
          let g3 : x ≡ leg D m3 = leg_inj x.target D x.mode m3 ex f3 in
          cc (g1, g2, g3)

      before_vias : (l m x : Leg) → AdmitsIn s S D (l ∷ m ∷ x ∷ []) → clear_choice clears S (l ∷ m ∷ x ∷ []) ≡ true → (l ∷ m ∷ x ∷ [] ≡ choice → ⊥) →
          (l.target ≡ reached.v → reach w ≡ 4096 * value far S (l ∷ m ∷ x ∷ []) + l.target → w ≤ m.target) → reached.v ≤ l.target →
          value far S choice ≡ value far S (l ∷ m ∷ x ∷ []) → length_from far S choice ≡ length_from far S (l ∷ m ∷ x ∷ []) → dets_of choice ≡ dets_of (l ∷ m ∷ x ∷ []) → before far S choice (l ∷ m ∷ x ∷ []) ≡ true
      unfolding key_of vias_of targets_of end_by
      before_vias l m x a c ne second le worth long same =
          lex_same (length_from far S choice) (length_from far S (l ∷ m ∷ x ∷ [])) _ _ long ∙ (lex_same (dets_of choice) (dets_of (l ∷ m ∷ x ∷ [])) _ _ same ∙ (lex_same 2 2 _ _ refl ∙
          by_order reached.v l.target
          (λ g. lex_less reached.v l.target _ _ g)
          (λ q. lex_same reached.v l.target _ _ q ∙
          by_order w m.target
          (λ g. lex_less w m.target _ _ g)
          (λ r. absurd (ne (same_vias l m x (sym q) (sym r) a.ends c same)))
          (λ g. let up = second (sym q) (omega (arith, number_is, worth)) in absurd (omega arith)))
          (λ g. absurd (omega arith))))

      others : (e : Choice) → AdmitsIn s S D e → clear_choice clears S e ≡ true → (e ≡ choice → ⊥) → before far S choice e ≡ true
      unfolding end_by clear_by vias_of
      others [] a c ne = absurd (apart a.ends)
      others (l ∷ []) a c ne = absurd (no_leg_law l a c)
      others (l ∷ m ∷ []) a c ne =
          let t = one_via_law l m a c in
          lesser_before far S choice (l ∷ m ∷ []) dets_few t.dets (omega (arith, under, above_one (notes D) (noted D h_d) l.target t.below t.out t.back, t.worth))
      others (l ∷ m ∷ x ∷ []) a c ne =
          let t = two_vias l m x a c in
          let e = l ∷ m ∷ x ∷ [] in
          let small = node_small s h l.target t.below in
          let vs = node_small s h reached.v reached.below in
          let k = whole (notes D) (noted D h_d) in
          ⊎_elim
          (λ le. by_le limit (reach m.target)
          (λ up. lesser_before far S choice e dets_few t.dets (omega (arith, under, k.is, le, up, small)))
          (λ low.
          let up = each m.target t.behind low in
          by_order (value far S choice) (value far S e)
          (λ g. lesser_before far S choice e dets_few t.dets g)
          (λ q. equal_before far S choice e dets_few t.dets q
          (before_vias l m x a c ne
          (λ _ is. by_le w m.target (λ g. g) (λ g. absurd (omega (arith, first m.target g low, is, le))))
          (omega (arith, number_is, up, le, q)) q))
          (λ g. absurd (omega (arith, number_is, up, le, g, small)))))
          (λ le. lesser_before far S choice e dets_few t.dets (omega (arith, under, k.is, le)))
          (two_least l.target m.target e t)
      others (l ∷ m ∷ x ∷ y ∷ ls) a c ne = let few = a.few in absurd (omega arith)

      pub by_two : route_by far s sound S D ≡ some choice
      unfolding route_by planned clear_by
      by_two = best_first (before far S) (before_order far S) (clear_choice clears S) (choices s S D) choice (record {
        listed = admits_lists most_vias (node_count s) S D choice admits;
        passes = rw (better_clear reached.v S reached.out, better_clear w reached.v reached.on, better_clear D w reached.back) refl;
        least = λ e m t ne. others e (lists_admits most_vias (node_count s) S D e m) t ne;
      })

    -- Where none is better, no choice by two vias is below the bound.
    pub above_two : ((x : ℕ) → x < node_count s → limit ≤ reach x) → (u w : ℕ) (c : Choice) → TwoVias u w c → limit ≤ 4096 * value far S c
    above_two none_better u w c t =
        let small = node_small s h u t.below in
        let k = whole (notes D) (noted D h_d) in
        ⊎_elim (λ le. omega (arith, k.is, le, none_better w t.behind, small)) (λ le. le) (two_least u w c t)

    -- The least of what each node as second via can reach, and of the choices with fewer vias, which D's note says, is the first clear choice.
    pub record ThirdLeg : Type 0 where
      pub two :
          (w : ℕ) (lw : w < node_count s) (better : reach w < limit) (each : (x : ℕ) → x < node_count s → reach x < limit → reach w ≤ reach x)
          (first : (x : ℕ) → x < w → reach x < limit → reach w < reach x) → route_by far s sound S D ≡ some (choice w lw better each first)
      pub one : (none_better : (x : ℕ) → x < node_count s → limit ≤ reach x) (low : notes D < unclear) → route_by far s sound S D ≡ some (single (notes D) (noted D h_d) (above_two none_better) low)
      pub none : ((x : ℕ) → x < node_count s → limit ≤ reach x) → unclear ≤ notes D → route_by far s sound S D ≡ none

    pub third_leg : ThirdLeg
    third_leg = record {
      two = by_two;
      one = λ none_better low. by_one (notes D) (noted D h_d) (above_two none_better) low;
      none = λ none_better high. by_none (notes D) (noted D h_d) (above_two none_better) high;
    }
