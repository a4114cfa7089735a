-- The search's first steps: where a choice is as short as can be and adaptive throughout, only such choices compete with it. Each for any number of vias.
use Prim.Native.Nat.{ℕ, ◌+◌, ◌<◌, ◌≤◌}
use native.Mathlib.Omega.{arith}
use mathlib.Core.Path.{◌≡◌, refl, sym, ap, ◌∙◌}
use mathlib.Core.Bool.{Bool, true, false, ◌&&◌, true≢false}
use mathlib.Core.List.{[], ◌∷◌}
use mathlib.Core.Option.{some}
use Rattle.theory.specs.Machine.{end_by, sum_by}
use Rattle.theory.specs.Clear.{clear_by}
use Rattle.theory.proofs.Bools.{and_true}
use Rattle.theory.proofs.Cases.{by_order}
use Rattle.theory.proofs.Choice.{best_first, lex_less, lex_same, lex_least}
use Rattle.machine.specs.declared.leg.Leg.{Leg}
use Rattle.machine.specs.declared.leg.Mode.{Mode}
use Rattle.machine.specs.declared.leg.Mode.TheVariants.{Adaptive, Deterministic}
use Rattle.machine.specs.Torus.{leg}
use Rattle.choice.specs.Choice.{Choice, targets_of, vias_of, det, modes_of, dets_of, length_from, key_of, before, Admits, choices_by}
use Rattle.choice.specs.Further.{clear_choice, first_by}
use Rattle.choice.specs.Search.{Between}
use Rattle.choice.proofs.Lists.{below_targets}
use Rattle.choice.proofs.Keys.{before_order, fewer_before}
use Rattle.choice.proofs.Listed.{admits_lists, lists_admits}
use Rattle.choice.proofs.Shortest.{shortest_iff, admits_long}

module _ (far : ℕ → ℕ → ℕ) (n : ℕ) (still : (p : ℕ) → far p p ≡ 0) (triangle : (p v t : ℕ) → p < n → v < n → t < n → far p t ≤ far p v + far v t) where
  module _ (clear : Leg → ℕ → Bool) (k S D : ℕ) (h_s : S < n) (h_d : D < n) where
    zero_before :
        (c e : Choice) → length_from far S c ≡ far S D → dets_of c ≡ 0 → far S D ≤ length_from far S e →
        (length_from far S e ≡ far S D → dets_of e ≡ 0 → before far S c e ≡ true) → before far S c e ≡ true
    unfolding key_of
    zero_before c e short adaptive le same =
        by_order (length_from far S c) (length_from far S e)
        (λ g. lex_less (length_from far S c) (length_from far S e) _ _ g)
        (λ q. by_order (dets_of c) (dets_of e)
        (λ g. lex_least (length_from far S c) (length_from far S e) _ _ (omega arith) (λ _. lex_less (dets_of c) (dets_of e) _ _ g))
        (λ r. same (omega arith) (omega arith))
        (λ g. absurd (omega arith)))
        (λ g. absurd (omega arith))

    -- Such a choice is first if it is the first of those whose vias lie between and whose legs are all adaptive.
    pub zero_first :
        (c : Choice) → Admits k n S D c → clear_choice clear S c ≡ true → length_from far S c ≡ far S D → dets_of c ≡ 0 →
        ((e : Choice) → Admits k n S D e → clear_choice clear S e ≡ true → Between far D S e → dets_of e ≡ 0 → (e ≡ c → ⊥) → before far S c e ≡ true) →
        first_by far clear k n S D ≡ some c
    unfolding first_by
    zero_first c adm passes short adaptive first =
        best_first (before far S) (before_order far S) (clear_choice clear S) (choices_by k n S D) c (record {
          listed = admits_lists k n S D c adm;
          passes = passes;
          least = λ e m t ne.
              let b = lists_admits k n S D e m in
              let all = below_targets n S e (rw b.ends h_d) b.inside in
              zero_before c e short adaptive (admits_long far n still triangle k S D h_s h_d e b)
              (λ q r. first e b t ((shortest_iff far n still triangle D S e h_d h_s all b.ends).0 q) r ne);
        })

    -- Where the direct adaptive leg is not clear.
    module _ (apart : S ≡ D → ⊥) (blocked : clear (leg D Adaptive) S ≡ false) where
      not_direct : (t : ℕ) (m : Mode) → t ≡ D → clear (leg t m) S ≡ true → det m + 0 ≡ 0 → ⊥
      not_direct t Adaptive e c d = true≢false (sym c ∙ rw e blocked)
      not_direct t Deterministic e c d = omega arith

      -- A via between S and D with both legs clear and adaptive, and no lower one: it is the choice. That it differs from the ends need not be tested.
      module _
          (some-via : 1 ≤ k) (v : ℕ) (hv : v < n)
          (one : clear (leg v Adaptive) S ≡ true) (two : clear (leg D Adaptive) v ≡ true) (between : far S v + far v D ≡ far S D)
          (lowest : (u : ℕ) → u < v → clear (leg u Adaptive) S ≡ true → clear (leg D Adaptive) u ≡ true → far S u + far u D ≡ far S D → ⊥) where
        abbrev by_v : Choice
        by_v = leg v Adaptive ∷ leg D Adaptive ∷ []

        off : v ≡ S → ⊥
        off e = let c : clear (leg D Adaptive) S ≡ true = rw (← e) two in true≢false (sym c ∙ blocked)

        before_end : v ≡ D → ⊥
        before_end e = let c : clear (leg D Adaptive) S ≡ true = rw (← e) one in true≢false (sym c ∙ blocked)

        by_v_admits : Admits k n S D by_v
        unfolding end_by vias_of targets_of
        by_v_admits = record { ends = refl; few = omega arith; inside = (hv, tt); apart = λ _. (((λ e. off (sym e)), (apart, tt)), ((before_end, tt), (tt, tt))); self = λ e. absurd (apart e) }

        by_u : (u t : ℕ) (m m' : Mode) → t ≡ D → clear (leg u m) S ≡ true → clear (leg t m') u ≡ true → far S u + far u D ≡ far S D → det m + (det m' + 0) ≡ 0 → (leg u m ∷ leg t m' ∷ [] ≡ by_v → ⊥) → before far S by_v (leg u m ∷ leg t m' ∷ []) ≡ true
        unfolding key_of sum_by dets_of vias_of targets_of modes_of
        by_u u t Adaptive Adaptive e c1 c2 b d ne =
            let same : far u t ≡ far u D = ap (far u) e in
            let c3 : clear (leg D Adaptive) u ≡ true = rw (← e) c2 in
            by_order v u
            (λ g. lex_same (far S v + (far v D + 0)) (far S u + (far u t + 0)) _ _ (omega arith) ∙ (lex_same 0 0 _ _ refl ∙ (lex_same 1 1 _ _ refl ∙ lex_less v u _ _ g)))
            (λ q. absurd (ne (rw (q, e) refl)))
            (λ g. absurd (lowest u g c1 c3 b))
        by_u u t Adaptive Deterministic e c1 c2 b d ne = absurd (omega arith)
        by_u u t Deterministic m' e c1 c2 b d ne = absurd (omega arith)

        others : (e : Choice) → Admits k n S D e → clear_choice clear S e ≡ true → Between far D S e → dets_of e ≡ 0 → (e ≡ by_v → ⊥) → length_from far S by_v ≤ length_from far S e → before far S by_v e ≡ true
        unfolding end_by clear_by dets_of vias_of sum_by
        others [] a c b d ne le = absurd (apart a.ends)
        others (l ∷ []) a c b d ne le = absurd (not_direct l.target l.mode a.ends (and_true (clear l S) true c).0 d)
        others (l ∷ m ∷ []) a c b d ne le =
            let c1 = and_true (clear l S) (clear m l.target && true) c in
            let c2 = and_true (clear m l.target) true c1.1 in
            by_u l.target m.target l.mode m.mode a.ends c1.0 c2.0 b.0 d ne
        others (l ∷ m ∷ x ∷ ls) a c b d ne le = fewer_before far S by_v (l ∷ m ∷ x ∷ ls) le (omega arith) (omega arith)

        pub via_first : first_by far clear k n S D ≡ some (leg v Adaptive ∷ leg D Adaptive ∷ [])
        unfolding clear_by sum_by dets_of
        via_first = zero_first by_v by_v_admits (rw (one, two)) (omega arith) refl (λ e a c b d ne. let long = admits_long far n still triangle k S D h_s h_d e a in others e a c b d ne (omega arith))

      -- Where there is no such via.
      module _ (no_via : (u : ℕ) → u < n → clear (leg u Adaptive) S ≡ true → clear (leg D Adaptive) u ≡ true → far S u + far u D ≡ far S D → ⊥) where
        not_one : (u t : ℕ) (m m' : Mode) → u < n → t ≡ D → clear (leg u m) S ≡ true → clear (leg t m') u ≡ true → far S u + far u D ≡ far S D → det m + (det m' + 0) ≡ 0 → ⊥
        not_one u t Adaptive Adaptive lt e c1 c2 b d = let c3 : clear (leg D Adaptive) u ≡ true = rw (← e) c2 in no_via u lt c1 c3 b
        not_one u t Deterministic m' lt e c1 c2 b d = omega arith
        not_one u t Adaptive Deterministic lt e c1 c2 b d = omega arith

        two_legs : (l m : Leg) → Admits k n S D (l ∷ m ∷ []) → clear_choice clear S (l ∷ m ∷ []) ≡ true → Between far D S (l ∷ m ∷ []) → dets_of (l ∷ m ∷ []) ≡ 0 → ⊥
        unfolding end_by clear_by dets_of vias_of
        two_legs l m a c b d =
            let c1 = and_true (clear l S) (clear m l.target && true) c in
            let c2 = and_true (clear m l.target) true c1.1 in
            not_one l.target m.target l.mode m.mode a.inside.0 a.ends c1.0 c2.0 b.0 d

        -- With at most two vias no clear choice is as short as can be and adaptive throughout, where no two vias make one.
        module _ (no-two : (u x : ℕ) → u < n → x < n → clear (leg u Adaptive) S ≡ true → clear (leg x Adaptive) u ≡ true → clear (leg D Adaptive) x ≡ true → far S u + far u D ≡ far S D → far u x + far x D ≡ far u D → ⊥) where
          not_two :
              (u x t : ℕ) (m m' m'' : Mode) → u < n → x < n → t ≡ D → clear (leg u m) S ≡ true → clear (leg x m') u ≡ true → clear (leg t m'') x ≡ true →
              far S u + far u D ≡ far S D → far u x + far x D ≡ far u D → det m + (det m' + (det m'' + 0)) ≡ 0 → ⊥
          not_two u x t Adaptive Adaptive Adaptive lu lx e c1 c2 c3 b1 b2 d = let c4 : clear (leg D Adaptive) x ≡ true = rw (← e) c3 in no-two u x lu lx c1 c2 c4 b1 b2
          not_two u x t Deterministic m' m'' lu lx e c1 c2 c3 b1 b2 d = omega arith
          not_two u x t Adaptive Deterministic m'' lu lx e c1 c2 c3 b1 b2 d = omega arith
          not_two u x t Adaptive Adaptive Deterministic lu lx e c1 c2 c3 b1 b2 d = omega arith

          three_legs : (l m x : Leg) → Admits k n S D (l ∷ m ∷ x ∷ []) → clear_choice clear S (l ∷ m ∷ x ∷ []) ≡ true → Between far D S (l ∷ m ∷ x ∷ []) → dets_of (l ∷ m ∷ x ∷ []) ≡ 0 → ⊥
          unfolding end_by clear_by dets_of vias_of
          three_legs l m x a c b d =
              let c1 = and_true (clear l S) (clear m l.target && (clear x m.target && true)) c in
              let c2 = and_true (clear m l.target) (clear x m.target && true) c1.1 in
              let c3 = and_true (clear x m.target) true c2.1 in
              not_two l.target m.target x.target l.mode m.mode x.mode a.inside.0 a.inside.1.0 a.ends c1.0 c2.0 c3.0 b.0 b.1.0 d

          pub none_by_two : k ≤ 2 → (c : Choice) → Admits k n S D c → clear_choice clear S c ≡ true → length_from far S c ≡ far S D → dets_of c ≡ 0 → ⊥
          unfolding end_by clear_by dets_of vias_of
          none_by_two most [] a c short d = apart a.ends
          none_by_two most (l ∷ []) a c short d = not_direct l.target l.mode a.ends (and_true (clear l S) true c).0 d
          none_by_two most (l ∷ m ∷ []) a c short d =
              let all = below_targets n S (l ∷ m ∷ []) (rw a.ends h_d) a.inside in
              two_legs l m a c ((shortest_iff far n still triangle D S (l ∷ m ∷ []) h_d h_s all a.ends).0 short) d
          none_by_two most (l ∷ m ∷ x ∷ []) a c short d =
              let all = below_targets n S (l ∷ m ∷ x ∷ []) (rw a.ends h_d) a.inside in
              three_legs l m x a c ((shortest_iff far n still triangle D S (l ∷ m ∷ x ∷ []) h_d h_s all a.ends).0 short) d
          none_by_two most (l ∷ m ∷ x ∷ y ∷ ls) a c short d = let few = a.few in omega arith

        -- By two vias, all legs clear and adaptive: the lowest first via that leads on, then the lowest second one.
        module _
            (two_vias : 2 ≤ k) (v w : ℕ) (hv : v < n) (hw : w < n)
            (one : clear (leg v Adaptive) S ≡ true) (two : clear (leg w Adaptive) v ≡ true) (three : clear (leg D Adaptive) w ≡ true)
            (between : far S v + far v D ≡ far S D) (further : far v w + far w D ≡ far v D)
            (lowest : (u x : ℕ) → u < v → clear (leg u Adaptive) S ≡ true → clear (leg x Adaptive) u ≡ true → clear (leg D Adaptive) x ≡ true → x < n → far S u + far u D ≡ far S D → far u x + far x D ≡ far u D → ⊥)
            (lowest_second : (x : ℕ) → x < w → clear (leg x Adaptive) v ≡ true → clear (leg D Adaptive) x ≡ true → far v x + far x D ≡ far v D → ⊥) where
          abbrev by_vw : Choice
          by_vw = leg v Adaptive ∷ leg w Adaptive ∷ leg D Adaptive ∷ []

          v_off : v ≡ S → ⊥
          v_off e =
              let c : clear (leg w Adaptive) S ≡ true = rw (← e) two in
              let b : far S w + far w D ≡ far S D = rw (← e) further in
              no_via w hw c three b

          v_end : v ≡ D → ⊥
          v_end e = let c : clear (leg D Adaptive) S ≡ true = rw (← e) one in true≢false (sym c ∙ blocked)

          w_off : w ≡ S → ⊥
          w_off e = let c : clear (leg D Adaptive) S ≡ true = rw (← e) three in true≢false (sym c ∙ blocked)

          w_end : w ≡ D → ⊥
          w_end e = let c : clear (leg D Adaptive) v ≡ true = rw (← e) two in no_via v hv one c between

          v_w : v ≡ w → ⊥
          v_w e = no_via v hv one (rw e three) between

          by_vw_admits : Admits k n S D by_vw
          unfolding end_by vias_of targets_of
          by_vw_admits = record {
            ends = refl;
            few = omega arith;
            inside = (hv, (hw, tt));
            apart = λ _. (((λ e. v_off (sym e)), ((λ e. w_off (sym e)), (apart, tt))), ((v_w, (v_end, tt)), ((w_end, tt), (tt, tt))));
            self = λ e. absurd (apart e);
          }

          by_ux :
              (u x t : ℕ) (m m' m'' : Mode) → x < n → t ≡ D → clear (leg u m) S ≡ true → clear (leg x m') u ≡ true → clear (leg t m'') x ≡ true →
              far S u + far u D ≡ far S D → far u x + far x D ≡ far u D → det m + (det m' + (det m'' + 0)) ≡ 0 →
              (leg u m ∷ leg x m' ∷ leg t m'' ∷ [] ≡ by_vw → ⊥) → before far S by_vw (leg u m ∷ leg x m' ∷ leg t m'' ∷ []) ≡ true
          unfolding key_of sum_by dets_of vias_of targets_of modes_of
          by_ux u x t Adaptive Adaptive Adaptive lx e c1 c2 c3 b1 b2 d ne =
              let same : far x t ≡ far x D = ap (far x) e in
              let c4 : clear (leg D Adaptive) x ≡ true = rw (← e) c3 in
              lex_same (far S v + (far v w + (far w D + 0))) (far S u + (far u x + (far x t + 0))) _ _ (omega arith) ∙ (lex_same 0 0 _ _ refl ∙ (lex_same 2 2 _ _ refl ∙
              by_order v u
              (λ g. lex_less v u _ _ g)
              (λ q. lex_same v u _ _ q ∙
              by_order w x
              (λ g. lex_less w x _ _ g)
              (λ r. absurd (ne (rw (q, r, e) refl)))
              (λ g. absurd (lowest_second x g (rw q c2) c4 (rw q b2))))
              (λ g. absurd (lowest u x g c1 c2 c4 lx b1 b2))))
          by_ux u x t Deterministic m' m'' lx e c1 c2 c3 b1 b2 d ne = absurd (omega arith)
          by_ux u x t Adaptive Deterministic m'' lx e c1 c2 c3 b1 b2 d ne = absurd (omega arith)
          by_ux u x t Adaptive Adaptive Deterministic lx e c1 c2 c3 b1 b2 d ne = absurd (omega arith)

          others_two : (e : Choice) → Admits k n S D e → clear_choice clear S e ≡ true → Between far D S e → dets_of e ≡ 0 → (e ≡ by_vw → ⊥) → length_from far S by_vw ≤ length_from far S e → before far S by_vw e ≡ true
          unfolding end_by clear_by dets_of vias_of sum_by
          others_two [] a c b d ne le = absurd (apart a.ends)
          others_two (l ∷ []) a c b d ne le = absurd (not_direct l.target l.mode a.ends (and_true (clear l S) true c).0 d)
          others_two (l ∷ m ∷ []) a c b d ne le = absurd (two_legs l m a c b d)
          others_two (l ∷ m ∷ x ∷ []) a c b d ne le =
              let c1 = and_true (clear l S) (clear m l.target && (clear x m.target && true)) c in
              let c2 = and_true (clear m l.target) (clear x m.target && true) c1.1 in
              let c3 = and_true (clear x m.target) true c2.1 in
              by_ux l.target m.target x.target l.mode m.mode x.mode a.inside.1.0 a.ends c1.0 c2.0 c3.0 b.0 b.1.0 d ne
          others_two (l ∷ m ∷ x ∷ y ∷ ls) a c b d ne le = fewer_before far S by_vw (l ∷ m ∷ x ∷ y ∷ ls) le (omega arith) (omega arith)

          pub two_vias_first : first_by far clear k n S D ≡ some (leg v Adaptive ∷ leg w Adaptive ∷ leg D Adaptive ∷ [])
          unfolding clear_by sum_by dets_of
          two_vias_first = zero_first by_vw by_vw_admits (rw (one, two, three)) (omega arith) refl (λ e a c b d ne. let long = admits_long far n still triangle k S D h_s h_d e a in others_two e a c b d ne (omega arith))
