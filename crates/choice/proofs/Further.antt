-- The first clear choice with one via more: the first with no more vias, or the first to some node followed by that node's better leg.
use Prim.Native.Nat.{ℕ, suc, ◌+◌, ◌<◌, ◌≤◌}
use native.Mathlib.Omega.{arith}
use mathlib.Core.Path.{◌≡◌, refl, sym, ap, ◌∙◌}
use mathlib.Core.Logic.{◌⊎◌, ⊎_elim}
use mathlib.Core.Bool.{Bool, true, true≢false}
use mathlib.Core.List.Memᴰ
use mathlib.Core.List.{List, [], ◌∷◌, ◌++◌, Memᴰ}
use mathlib.Core.Option.{Option, none, some}
use lib.ListN.{length}
use lib.Dec.{eqb}
use borrow.Author.Tests.{eqb-true, eqb-false}
use Rattle.theory.specs.Machine.{end_by}
use Rattle.theory.specs.Clear.{clear_by}
use Rattle.theory.specs.Choice.{Order, First, Best, earlier, best}
use Rattle.theory.proofs.Bools.{and_true}
use Rattle.theory.proofs.Cases.{test, by_le}
use Rattle.theory.proofs.Choice.{best_is, best_none, best_first, before_trans, first_not_later, first_before}
use Rattle.machine.specs.declared.leg.Leg.{Leg}
use Rattle.machine.specs.declared.leg.Mode.{Mode}
use Rattle.machine.specs.declared.leg.Mode.TheVariants.{Adaptive, Deterministic}
use Rattle.machine.specs.Torus.{leg}
use Rattle.choice.specs.Choice.{Choice, targets_of, vias_of, end_from, before, Below, Misses, Different, Admits, over, direct, legs_by, misses, different, kept, choices_by}
use Rattle.choice.specs.Further.{clear_choice, first_by, better, directly, alone, followed, furthered}
use Rattle.choice.proofs.Lists.{vias_legs, legs_count, targets_behind, end_behind, clear_behind, Split, split, below_vias, below_targets}
use Rattle.choice.proofs.Keys.{leg_inj, before_order, adaptive_before, append_before}
use Rattle.choice.proofs.Listed.{over_has, has_over, admits_lists, lists_admits}
use Rattle.choice.proofs.Tidy.{Loose, admitted_first}

-- Of lists with a last element.
below_behind : (n : ℕ) (xs : List ℕ) (x : ℕ) → Below n xs → x < n → Below n (xs ++ (x ∷ []))
below_behind n [] x h lt = (lt, tt)
below_behind n (y ∷ xs) x h lt = (h.0, below_behind n xs x h.1 lt)

below_front : (n : ℕ) (xs ys : List ℕ) → Below n (xs ++ ys) → Below n xs
below_front n [] ys h = tt
below_front n (x ∷ xs) ys h = (h.0, below_front n xs ys h.1)

misses_front : (v : ℕ) (xs ys : List ℕ) → Misses v (xs ++ ys) → Misses v xs
misses_front v [] ys h = tt
misses_front v (x ∷ xs) ys h = (h.0, misses_front v xs ys h.1)

different_front : (xs ys : List ℕ) → Different (xs ++ ys) → Different xs
different_front [] ys h = tt
different_front (x ∷ xs) ys h = (misses_front x xs ys h.0, different_front xs ys h.1)

end_below : (n p : ℕ) (c : Choice) → 1 ≤ length c → Below n (targets_of c) → end_from p c < n
unfolding end_by targets_of
end_below n p [] h b = absurd (omega arith)
end_below n p (l ∷ []) h b = b.0
end_below n p (l ∷ m ∷ ls) h b = end_below n l.target (m ∷ ls) (omega arith) b.1

end_misses : (S p : ℕ) (c : Choice) → 1 ≤ length c → Misses S (targets_of c) → S ≡ end_from p c → ⊥
unfolding end_by targets_of
end_misses S p [] h b = absurd (omega arith)
end_misses S p (l ∷ []) h b = b.0
end_misses S p (l ∷ m ∷ ls) h b = end_misses S l.target (m ∷ ls) (omega arith) b.1

split_of : (c : Choice) → 1 ≤ length c → Split c
split_of [] h = absurd (omega arith)
split_of (l ∷ ls) h = split l ls

-- Of what is listed once or not at all.
none_some : {C X : Type 0} (c : C) → none ≡ some c → X
none_some c e = let z : ◌≡◌ {A = ℕ} 0 1 = cc in absurd (omega arith)

pub alone_has : (o : Option Choice) (e : Choice) → Memᴰ e (alone o) → o ≡ some e
unfolding alone
alone_has none e m = absurd (Memᴰ.not-nil m)
alone_has (some c) e m = ⊎_elim (λ q. rw q refl) (λ m. absurd (Memᴰ.not-nil m)) (Memᴰ.cases_cons m)

pub has_alone : (o : Option Choice) (e : Choice) → o ≡ some e → Memᴰ e (alone o)
unfolding alone
has_alone o e q = rw q (Memᴰ.head refl)

pub record Followed (o : Option Choice) (l : Option Leg) (e : Choice) : Type 0 where
  pub front : Choice
  pub last : Leg
  pub one : o ≡ some front
  pub two : l ≡ some last
  pub same : e ≡ front ++ (last ∷ [])

pub followed_has : (o : Option Choice) (l : Option Leg) (e : Choice) → Memᴰ e (followed o l) → Followed o l e
unfolding followed
followed_has none l e m = absurd (Memᴰ.not-nil m)
followed_has (some c) none e m = absurd (Memᴰ.not-nil m)
followed_has (some c) (some x) e m =
    ⊎_elim (λ q. record { front = c; last = x; one = refl; two = refl; same = q }) (λ m. absurd (Memᴰ.not-nil m)) (Memᴰ.cases_cons m)

pub has_followed : (o : Option Choice) (l : Option Leg) (c : Choice) (x : Leg) → o ≡ some c → l ≡ some x → Memᴰ (c ++ (x ∷ [])) (followed o l)
unfolding followed
has_followed o l c x e f = rw (e, f) (Memᴰ.head refl)

module _ (far : ℕ → ℕ → ℕ) (clear : Leg → ℕ → Bool) (n : ℕ) where
  -- The better clear leg ends at D and is clear.
  pub better_is : (w D : ℕ) (x : Leg) → better clear w D ≡ some x → (x.target ≡ D) × (clear x w ≡ true)
  unfolding better
  better_is w D x e = test (clear (leg D Adaptive) w)
      (λ t. let q : leg D Adaptive ≡ x = cc (rw t at e) in rw (← q) (refl, t))
      (λ f. test (clear (leg D Deterministic) w)
      (λ t. let q : leg D Deterministic ≡ x = cc (rw (f, t) at e) in rw (← q) (refl, t))
      (λ g. none_some x (rw (f, g) at e)))

  loose_behind : (k S w : ℕ) (c : Choice) (x : Leg) → Loose far clear n k S w c → x.target < n → clear x w ≡ true → Loose far clear n (suc k) S x.target (c ++ (x ∷ []))
  loose_behind k S w c x o lt h =
      let count = legs_count c x in
      let some = o.some in
      let few = o.few in
      let one = vias_legs c some in
      let two = vias_legs (c ++ (x ∷ [])) (omega arith) in
      record {
        ends = end_behind S c x;
        some = omega arith;
        few = omega arith;
        inside = rw (targets_behind c x) (below_behind n (targets_of c) x.target o.inside lt);
        passes = rw (clear_behind clear S c x, o.passes, o.ends, h);
      }

  loose_to : (k S D t : ℕ) (c g : Choice) → t ≡ D → c ≡ g → Loose far clear n k S t g → Loose far clear n k S D c
  loose_to k S D t c g e f o = rw (f, ← e) o

  admits_some : (k S D : ℕ) (c : Choice) → Admits k n S D c → 1 ≤ length c
  unfolding end_by
  admits_some k S D c a = test (eqb S D)
      (λ t. let q : length c ≡ 1 = ap length (a.self (eqb-true S D t)) in omega arith)
      (λ t. go c (eqb-false S D t) a.ends)
    where
      go : (c : Choice) → (S ≡ D → ⊥) → end_from S c ≡ D → 1 ≤ length c
      go [] ne e = absurd (ne e)
      go (l ∷ ls) ne e = omega arith

  admits_loose : (k m S D : ℕ) (c : Choice) → D < n → k ≤ m → Admits k n S D c → clear_choice clear S c ≡ true → Loose far clear n m S D c
  admits_loose k m S D c lt le a h =
      let few = a.few in
      record { ends = a.ends; some = admits_some k S D c a; few = omega arith; inside = below_targets n S c (rw a.ends lt) a.inside; passes = h }

  module _ (S : ℕ) (still : far S S ≡ 0) (empty : clear (leg S Adaptive) S ≡ true) where
    O : Order (before far S)
    O = before_order far S

    firsts : (k D : ℕ) → Best (before far S) (clear_choice clear S) (choices_by k n S D) (first_by far clear k n S D)
    unfolding first_by
    firsts k D = best_is (before far S) O (clear_choice clear S) (choices_by k n S D)

    first_loose : (k m D : ℕ) (c : Choice) → D < n → k ≤ m → first_by far clear k n S D ≡ some c → Loose far clear n m S D c
    first_loose k m D c lt le e =
        let f = (firsts k D).chosen c e in
        admits_loose k m S D c lt le (lists_admits k n S D c f.listed) f.passes

    some_first : (k D : ℕ) (a : Choice) → Admits k n S D a → clear_choice clear S a ≡ true → (b : Choice) × (first_by far clear k n S D ≡ some b)
    some_first k D a adm h = go (first_by far clear k n S D) refl
      where
        go : (o : Option Choice) → first_by far clear k n S D ≡ o → (b : Choice) × (first_by far clear k n S D ≡ some b)
        go none e = absurd (true≢false (sym h ∙ (firsts k D).refused.0 e a (admits_lists k n S D a adm)))
        go (some b) e = (b, e)

    -- With no via: the better direct leg.
    direct_better : (D : ℕ) → (S ≡ D → ⊥) → best (before far S) (clear_choice clear S) ((leg D Adaptive ∷ []) ∷ (leg D Deterministic ∷ []) ∷ []) ≡ directly (better clear S D)
    unfolding best earlier clear_by better
    direct_better D ne = test (clear (leg D Adaptive) S)
        (λ t. test (clear (leg D Deterministic) S)
        (λ f. rw (t, f, O.asym (leg D Adaptive ∷ []) (leg D Deterministic ∷ []) (adaptive_before far S [] D)))
        (λ f. rw (t, f)))
        (λ t. test (clear (leg D Deterministic) S) (λ f. rw (t, f)) (λ f. rw (t, f)))

    self_better : (D : ℕ) → S ≡ D → best (before far S) (clear_choice clear S) ((leg D Adaptive ∷ []) ∷ []) ≡ directly (better clear S D)
    unfolding best earlier clear_by better
    self_better D e = let h : clear (leg D Adaptive) S ≡ true = rw (← e) empty in rw h

    pub no_via_first : (D : ℕ) → first_by far clear 0 n S D ≡ directly (better clear S D)
    unfolding first_by choices_by legs_by direct kept different misses targets_of
    no_via_first D = test (eqb S D)
        (λ t. rw t (self_better D (eqb-true S D t)))
        (λ t. rw t (direct_better D (eqb-false S D t)))

    module _ (k D : ℕ) (target : D < n) where
      furthered_loose : (e : Choice) → Memᴰ e (furthered far clear k n S D) → Loose far clear n (suc k) S D e
      unfolding furthered
      furthered_loose e m =
          ⊎_elim
          (λ m. first_loose k (suc k) D e target (omega arith) (alone_has (first_by far clear k n S D) e m))
          (λ m.
          let o = has_over n (λ w. followed (first_by far clear k n S w) (better clear w D)) e m in
          let w = o.0 in
          let f = followed_has (first_by far clear k n S w) (better clear w D) e o.2 in
          let b = better_is w D f.last f.two in
          let g = loose_behind k S w f.front f.last (first_loose k k w f.front o.1 (omega arith) f.one) (rw b.0 target) b.1 in
          loose_to (suc k) S D f.last.target e (f.front ++ (f.last ∷ [])) b.0 f.same g)
          (Memᴰ.append_cases (alone (first_by far clear k n S D)) m)

      abbrev pub IsFirst : Choice → Type 0
      IsFirst c = First (before far S) (clear_choice clear S) (choices_by (suc k) n S D) c

      -- Nothing clear comes before the first, repeated nodes or not.
      none_before_law : (c g : Choice) → IsFirst c → Loose far clear n (suc k) S D g → before far S g c ≡ true → ⊥
      none_before_law c g f o h =
          let s = admitted_first far clear n S still empty (suc k) D g o in
          let later = first_not_later (before far S) O (clear_choice clear S) (choices_by (suc k) n S D) c s.legs f (admits_lists (suc k) n S D s.legs s.admitted) s.passes in
          ⊎_elim
          (λ q. true≢false (sym h ∙ rw (← q) later))
          (λ b. true≢false (sym (before_trans (before far S) O (clear_choice clear S) s.legs g c b h) ∙ later))
          s.sooner

      few_first : (c : Choice) → IsFirst c → length (vias_of c) ≤ k → first_by far clear k n S D ≡ some c
      unfolding first_by
      few_first c f few =
          let a = lists_admits (suc k) n S D c f.listed in
          best_first (before far S) O (clear_choice clear S) (choices_by k n S D) c (record {
            listed = admits_lists k n S D c (record { ends = a.ends; few = few; inside = a.inside; apart = a.apart; self = a.self });
            passes = f.passes;
            least = λ e m t ne.
                let b = lists_admits k n S D e m in
                let le = b.few in
                f.least e (admits_lists (suc k) n S D e (record { ends = b.ends; few = omega arith; inside = b.inside; apart = b.apart; self = b.self })) t ne;
          })

      -- The last leg of the first choice has its better mode.
      mode_best : (a : Choice) (m : Mode) → IsFirst (a ++ (leg D m ∷ [])) → Loose far clear n k S (end_from S a) a → clear (leg D m) (end_from S a) ≡ true → better clear (end_from S a) D ≡ some (leg D m)
      unfolding better
      mode_best a Adaptive f o h = rw h
      mode_best a Deterministic f o h = test (clear (leg D Adaptive) (end_from S a))
          (λ t. absurd (none_before_law (a ++ (leg D Deterministic ∷ [])) (a ++ (leg D Adaptive ∷ [])) f (loose_behind k S (end_from S a) a (leg D Adaptive) o target t) (adaptive_before far S a D)))
          (λ t. rw (t, h))

      -- What stands before it is the first choice to its via.
      front_first : (a b : Choice) (m : Mode) → IsFirst (a ++ (leg D m ∷ [])) → end_from S a < n → Admits k n S (end_from S a) a → clear_choice clear S a ≡ true → clear (leg D m) (end_from S a) ≡ true → first_by far clear k n S (end_from S a) ≡ some b → b ≡ a
      front_first a b m f lt adm ca cx e =
          let w = end_from S a in
          let g = (firsts k w).chosen b e in
          let o = first_loose k k w b lt (omega arith) e in
          test (before far S b a)
          (λ t. absurd (none_before_law (a ++ (leg D m ∷ [])) (b ++ (leg D m ∷ [])) f (loose_behind k S w b (leg D m) o target cx)
          (append_before far S b a (leg D m) o.some (admits_some k S w a adm) o.ends t)))
          (λ t. O.apart b a t (first_not_later (before far S) O (clear_choice clear S) (choices_by k n S w) b a g (admits_lists k n S w a adm) ca))

      -- Where the first choice has k + 1 vias, what stands before its last leg is the first choice to its last via, by k vias, and the leg is the better one.
      record Ahead (a : Choice) (m : Mode) : Type 0 where
        node : end_from S a < n
        front : first_by far clear k n S (end_from S a) ≡ some a
        last : better clear (end_from S a) D ≡ some (leg D m)

      ahead : (a : Choice) (m : Mode) → IsFirst (a ++ (leg D m ∷ [])) → k < length (vias_of (a ++ (leg D m ∷ []))) → Ahead a m
      ahead a m f many =
          let c = a ++ (leg D m ∷ []) in
          let adm = lists_admits (suc k) n S D c f.listed in
          let few = adm.few in
          let count = legs_count a (leg D m) in
          let vias = vias_legs c (omega arith) in
          let legs : 1 ≤ length a = omega arith in
          let ne : S ≡ D → ⊥ = λ e. let q : length c ≡ 1 = ap length (adm.self e) in omega arith in
          let diff : Different (S ∷ (targets_of a ++ (D ∷ []))) = rw (targets_behind a (leg D m)) at (adm.apart ne) in
          let diffA : Different (S ∷ targets_of a) = different_front (S ∷ targets_of a) (D ∷ []) diff in
          let all = below_targets n S c (rw adm.ends target) adm.inside in
          let allA = below_front n (targets_of a) (D ∷ []) (rw (targets_behind a (leg D m)) at all) in
          let w = end_from S a in
          let lt = end_below n S a legs allA in
          let viasA = vias_legs a legs in
          let admA : Admits k n S w a = record { ends = refl; few = omega arith; inside = below_vias n a allA; apart = λ _. diffA; self = λ e. absurd (end_misses S S a legs diffA.0 e) } in
          let both = and_true (clear_choice clear S a) (clear (leg D m) w) (rw (clear_behind clear S a (leg D m)) at f.passes) in
          let b = some_first k w a admA both.0 in
          let same = front_first a b.0 m f lt admA both.0 both.1 b.1 in
          record {
            node = lt;
            front = b.1 ∙ ap some same;
            last = mode_best a m f (admits_loose k k S w a lt (omega arith) admA both.0) both.1;
          }

      -- A choice with its last leg to D apart.
      record Last (c : Choice) : Type 0 where
        front : Choice
        mode : Mode
        same : c ≡ front ++ (leg D mode ∷ [])

      last_leg_law : (c : Choice) → IsFirst c → Last c
      last_leg_law c f =
          let adm = lists_admits (suc k) n S D c f.listed in
          let s = split_of c (admits_some (suc k) S D c adm) in
          let end : s.last.target ≡ D = sym (end_behind S s.front s.last) ∙ (ap (end_from S) (sym s.same) ∙ adm.ends) in
          let last : leg D s.last.mode ≡ s.last = leg_inj D s.last.target s.last.mode s.last.mode (sym end) refl in
          record { front = s.front; mode = s.last.mode; same = s.same ∙ ap (λ x. s.front ++ (x ∷ [])) (sym last) }

      abbrev reached : ℕ → List Choice
      reached w = followed (first_by far clear k n S w) (better clear w D)

      found_behind : (a : Choice) (m : Mode) → IsFirst (a ++ (leg D m ∷ [])) → k < length (vias_of (a ++ (leg D m ∷ []))) → Memᴰ (a ++ (leg D m ∷ [])) (over n (λ w. reached w))
      found_behind a m f many =
          let h = ahead a m f many in
          let w = end_from S a in
          over_has n (λ w. reached w) w (a ++ (leg D m ∷ [])) h.node (has_followed (first_by far clear k n S w) (better clear w D) a (leg D m) h.front h.last)

      found : (c : Choice) → IsFirst c → Memᴰ c (furthered far clear k n S D)
      unfolding furthered
      found c f =
          by_le (length (vias_of c)) k
          (λ few. Memᴰ.append_left (over n (λ w. reached w)) (has_alone (first_by far clear k n S D) c (few_first c f few)))
          (λ many. Memᴰ.append_right (alone (first_by far clear k n S D))
          (let l = last_leg_law c f in
          rw l.same (found_behind l.front l.mode (rw l.same at f) (rw l.same at many))))

      -- The first clear choice with at most k + 1 vias to D is the first of: the first with at most k vias to D, and over all nodes w the first with
      -- at most k vias to w followed by the leg from w to D in its better clear mode.
      pub further_first : first_by far clear (suc k) n S D ≡ best (before far S) (λ _. true) (furthered far clear k n S D)
      further_first = go (first_by far clear (suc k) n S D) refl
        where
          go : (o : Option Choice) → first_by far clear (suc k) n S D ≡ o → first_by far clear (suc k) n S D ≡ best (before far S) (λ _. true) (furthered far clear k n S D)
          go none e = e ∙ sym (best_none (before far S) O (λ _. true) (furthered far clear k n S D) (λ g m.
              let s = admitted_first far clear n S still empty (suc k) D g (furthered_loose g m) in
              absurd (true≢false (sym s.passes ∙ (firsts (suc k) D).refused.0 e s.legs (admits_lists (suc k) n S D s.legs s.admitted)))))
          go (some c) e =
              let f = (firsts (suc k) D).chosen c e in
              e ∙ sym (best_first (before far S) O (λ _. true) (furthered far clear k n S D) c (record {
                listed = found c f;
                passes = refl;
                least = λ g m _ ne.
                    let s = admitted_first far clear n S still empty (suc k) D g (furthered_loose g m) in
                    let listed = admits_lists (suc k) n S D s.legs s.admitted in
                    ⊎_elim
                    (λ q. rw (← q) (f.least s.legs listed s.passes (λ r. ne (sym q ∙ r))))
                    (λ b. first_before (before far S) O (clear_choice clear S) (choices_by (suc k) n S D) c s.legs g f listed s.passes b)
                    s.sooner;
              }))
