-- Taking back is what the document says, and is computed without a search.
use Prim.Native.Nat.{ℕ, zero, suc, ◌+◌, ◌<◌, ◌≤◌}
use native.Mathlib.Omega.{arith}
use mathlib.Core.Path.{◌≡◌, refl, sym, ap, ◌∙◌}
use mathlib.Core.Bool.{true, cond, false≢true}
use mathlib.Core.List.{List, [], ◌∷◌, ◌++◌}
use mathlib.Core.Option.{Option, none, some}
use lib.ListN.{length, drop}
use lib.Dec.{eqb}
use borrow.Author.Tests.{eqb-true, eqb-false, eq-eqb, ne_eqb}
use Rattle.numbers.specs.Numbers.{not_back}
use Rattle.theory.specs.Machine.{Machine, Laws, Inside, allows}
use Rattle.theory.specs.Packet.{Stepped, may_go, tried, step}
use Rattle.theory.specs.Marks.{Marks, MarkLaws, CheckLaws, passed, settle, begins, new_of, hop, marked, Formed, Goes, Reached}
use Rattle.theory.specs.Back.{EndsBy, Before, TakenBack, Backward, BackLaws, last_leg, begin, back_on, back_from, take_back, back_answer, back, Undoing}
use Rattle.theory.proofs.Cases.{test}
use Rattle.theory.proofs.Drops.{Settled, settled_dropped}
use Rattle.theory.proofs.Marks.{none_settled, passed_one, passed_dropped, drop_settle, here, some_leg, begins_below, leg_below, settle_none, hop_put, may_put, new_put, hop_new, formed_hop}
use Rattle.theory.proofs.Reached.{Way, Stands, StandsAs, stands_put, reached_stands, goes_new, goes_append, not_there, walk_nearer, walk_inside, stands_reached}

none_some : {A X : Type 0} (a : A) → none ≡ some a → X
none_some a e = let z : ◌≡◌ {A = ℕ} 0 1 = cc in absurd (omega arith)

-- ---- the leg of the last hop
last_here : (begin : ℕ → ℕ) (p m : ℕ) → (begin m ≡ p → ⊥) → last_leg begin p m ≡ some m
unfolding last_leg
last_here begin p zero ne = rw (ne_eqb (begin zero) p ne)
last_here begin p (suc m) ne = rw (ne_eqb (begin (suc m)) p ne)

last_before : (begin : ℕ → ℕ) (p m : ℕ) → begin (suc m) ≡ p → last_leg begin p (suc m) ≡ last_leg begin p m
unfolding last_leg
last_before begin p m e = rw (eq-eqb (begin (suc m)) p e)

module _ {Leg : Type 0} (target : Leg → ℕ) (S : ℕ) (route : List Leg) (n : ℕ) where
  -- Legs that were dropped at n are jumped over.
  last_passed : (m : ℕ) (ls : List Leg) → drop m route ≡ ls → last_leg (begins target S route) n (m + passed target n ls) ≡ last_leg (begins target S route) n m
  unfolding passed
  last_passed m [] e = ap (last_leg (begins target S route) n) (omega arith)
  last_passed m (l ∷ ls) e =
      let h = here target S route m l ls e in
      test (eqb (target l) n)
      (λ t.
      let on : m + suc (passed target n ls) ≡ suc m + passed target n ls = omega arith in
      rw (t, on) (last_passed (suc m) ls h.next ∙ last_before (begins target S route) n m (h.ends ∙ eqb-true _ _ t)))
      (λ t. rw t (ap (last_leg (begins target S route) n) (omega arith)))

  record Last (m j : ℕ) : Type 0 where
    apart : begins target S route j ≡ n → ⊥
    jumped : settle target route n m ≡ settle target route n j

  last_is : (m j : ℕ) → m ≤ length route → last_leg (begins target S route) n m ≡ some j → Last m j
  unfolding last_leg
  last_is zero j h e =
      test (eqb (begins target S route 0) n)
      (λ t. none_some j (rw t at e))
      (λ t. let q : 0 ≡ j = some_same 0 j (rw t at e) in rw (← q) (record { apart = eqb-false _ _ t; jumped = refl }))
    where
      some_same : (a b : ℕ) → some a ≡ some b → a ≡ b
      some_same a b e = cc
  last_is (suc m) j h e =
      let s = some_leg target S route m h in
      test (eqb (begins target S route (suc m)) n)
      (λ t.
      let rest = last_is m j (omega arith) (rw t at e) in
      let one : settle target route n m ≡ settle target route n (suc m) = rw (s.1, passed_one target n s.0 (drop (suc m) route) (sym s.2 ∙ eqb-true _ _ t)) (omega arith) in
      record { apart = rest.apart; jumped = sym one ∙ rest.jumped })
      (λ t. let q : suc m ≡ j = some_same (suc m) j (rw t at e) in rw (← q) (record { apart = eqb-false _ _ t; jumped = refl }))
    where
      some_same : (a b : ℕ) → some a ≡ some b → a ≡ b
      some_same a b e = cc

-- ---- what the computation answers
module _ {Leg P : Type 0} (M : Machine Leg) (B : Backward Leg) (K : Marks Leg P) (q : P) (d : ℕ) where
  abbrev u : ℕ
  u = B.against (K.node q) d

  -- The last hop was made on leg number j.
  record Taken (j : ℕ) (l : Leg) (ls : List Leg) : Type 0 where
    settled : passed M.target (K.node q) (drop (K.mark q) (K.route q)) ≡ 0
    last : last_leg (begin M B K q) (K.node q) (K.mark q) ≡ some j
    legs : drop j (K.route q) ≡ l ∷ ls
    crossed : B.crosses l (begin M B K q j) u d ≡ true

  take_some : (j : ℕ) (l : Leg) (ls : List Leg) → Taken j l ls → take_back M B K q d ≡ some (K.put q u j)
  unfolding take_back
  take_some j l ls t = rw (eq-eqb _ 0 t.settled, t.last, t.legs, t.crossed)

  record Found (e : P) : Type 0 where
    j : ℕ
    l : Leg
    ls : List Leg
    taken : Taken j l ls
    is : K.put q u j ≡ e

  take_found : (e : P) → take_back M B K q d ≡ some e → Found e
  unfolding take_back
  take_found e h =
      test (eqb (passed M.target (K.node q) (drop (K.mark q) (K.route q))) 0)
      (λ t. by_leg (eqb-true _ _ t) (last_leg (begin M B K q) (K.node q) (K.mark q)) refl (rw t at h))
      (λ t. none_some e (rw t at h))
    where
      by_legs : passed M.target (K.node q) (drop (K.mark q) (K.route q)) ≡ 0 → (j : ℕ) → last_leg (begin M B K q) (K.node q) (K.mark q) ≡ some j → (ls : List Leg) → drop j (K.route q) ≡ ls → back_on M B K q d j ls ≡ some e → Found e
      by_legs s j a [] b h = none_some e h
      by_legs s j a (l ∷ ls) b h =
          test (B.crosses l (begin M B K q j) u d)
          (λ t. record {
            j = j;
            l = l;
            ls = ls;
            taken = record { settled = s; last = a; legs = b; crossed = t };
            is = some_same (rw t at h);
          })
          (λ t. none_some e (rw t at h))
        where
          some_same : some (K.put q u j) ≡ some e → K.put q u j ≡ e
          some_same e = cc

      by_leg : passed M.target (K.node q) (drop (K.mark q) (K.route q)) ≡ 0 → (o : Option ℕ) → last_leg (begin M B K q) (K.node q) (K.mark q) ≡ o → back_from M B K q d o ≡ some e → Found e
      by_leg s none a h = none_some e h
      by_leg s (some j) a h = by_legs s j a (drop j (K.route q)) refl h

module _ {Leg P : Type 0} (M : Machine Leg) (L : Laws M) (B : Backward Leg) (H : BackLaws M B) (K : Marks Leg P) (J : MarkLaws K) where
  -- ---- what a packet keeps of the one before it
  record Hopped (q : P) (d : ℕ) (e : P) : Type 0 where
    source : K.source q ≡ K.source e
    route : K.route q ≡ K.route e
    node : K.node q ≡ M.next (K.node e) d
    mark : K.mark q ≡ settle M.target (K.route e) (M.next (K.node e) d) (settle M.target (K.route e) (K.node e) (K.mark e))
    before : K.put q (K.node e) (K.mark e) ≡ e

  hopped : (q : P) (d : ℕ) (e : P) → hop M K e d ≡ q → Hopped q d e
  unfolding hop
  hopped q d e g = record {
    source = ap K.source (sym g) ∙ J.source_put e _ _;
    route = ap K.route (sym g) ∙ J.route_put e _ _;
    node = ap K.node (sym g) ∙ J.node_put e _ _;
    mark = ap K.mark (sym g) ∙ J.mark_put e _ _;
    before = ap (λ x. K.put x (K.node e) (K.mark e)) (sym g) ∙ J.put_put e _ _ _ _ ∙ J.put_same e;
  }

  module _ (q : P) (d : ℕ) (f : Formed M K q) where
    -- ---- the packet before is the one that is computed
    before_taken : (e : P) → Before M K q d e → take_back M B K q d ≡ some e
    unfolding allows
    before_taken e b = go (drop m r) refl (rw (settled_dropped M.target n (drop m r) s.settled) at b.allowed) s.on
      where
        k : Hopped q d e
        k = hopped q d e b.gives

        s : StandsAs M K J e
        s = reached_stands M K J e b.reached

        S : ℕ
        S = K.source e

        r : List Leg
        r = K.route e

        n : ℕ
        n = K.node e

        m : ℕ
        m = K.mark e

        v : ℕ
        v = M.next n d

        mark_is : K.mark q ≡ settle M.target r v m
        mark_is = k.mark ∙ ap (settle M.target r v) (settle_none M.target r n m s.settled)

        go : (ls : List Leg) → drop m r ≡ ls → allows M n ls d ≡ true → Way M (begins M.target S r m) n ls → take_back M B K q d ≡ some e
        go [] g a w = absurd (false≢true a)
        go (l ∷ ls) g a w =
            let sr : Inside M r = rw k.route at f.route in
            let sS : S < M.size = rw k.source at f.source in
            let start = begins M.target S r m in
            let at : start < M.size = begins_below M S r m sS sr in
            let end : M.target l < M.size = leg_below M r m l ls sr g in
            let here : n < M.size = rw w.2 at (walk_inside M L l start w.0 at end w.1) in
            let home : B.against (K.node q) d ≡ n = ap (λ p. B.against p d) k.node ∙ H.home l n d here end a in
            let far : start ≡ v → ⊥ = λ z.
            let x : M.hops n (M.target l) ≤ M.hops start (M.target l) = rw w.2 at (walk_nearer M L l start w.0 at end w.1) in
            let y : M.hops start (M.target l) ≡ M.hops v (M.target l) = ap (λ p. M.hops p (M.target l)) z in
            omega (arith, L.nearer l n d here end a) in
            let t : Taken M B K q d m l ls = record {
              settled = rw (k.route, k.node, mark_is) (ap (passed M.target v) (drop_settle M.target r v m) ∙ passed_dropped M.target v (drop m r));
              last = rw (k.route, k.node, k.source, mark_is) (last_passed M.target S r v m (drop m r) refl ∙ last_here (begins M.target S r) v m far);
              legs = rw k.route g;
              crossed = rw (k.route, k.source, home) ((H.crossed l start n d at here end).1 (record { walk = w.0; allowed = w.1; leads = w.2; onward = a }));
            } in
            take_some M B K q d m l ls t ∙ ap some (rw home k.before)

    -- ---- what is computed is the packet before
    taken_before : (e : P) → take_back M B K q d ≡ some e → Before M K q d e
    unfolding allows
    taken_before e h =
        let w = take_found M B K q d e h in
        let t = w.taken in
        let r = K.route q in
        let v = K.node q in
        let u = B.against v d in
        let at : u < M.size = H.inside v d f.node in
        let end : M.target w.l < M.size = leg_below M r w.j w.l w.ls f.route t.legs in
        let start = begins_below M (K.source q) r w.j f.source f.route in
        let x = (H.crossed w.l _ u d start at end).0 t.crossed in
        let forth : M.next u d ≡ v = H.forth w.l v d f.node end x.onward in
        let last = last_is M.target (K.source q) r v (K.mark q) w.j f.mark t.last in
        let free : Settled M.target u (drop w.j r) = rw t.legs (not_there M L w.l u d at end x.onward) in
        let stands : Stands M (K.source q) r u w.j = record {
          settled = free;
          within = omega (arith, (here M.target (K.source q) r w.j w.l w.ls t.legs).below);
          on = rw t.legs (x.walk, x.allowed, x.leads);
        } in
        let same : settle M.target r v (K.mark q) ≡ K.mark q = settle_none M.target r v (K.mark q) (none_settled M.target v _ t.settled) in
        let reached = stands_reached M L K J (K.put q u w.j) (rw (J.source_put q u w.j) f.source) (rw (J.route_put q u w.j) f.route) (stands_put M K J q u w.j stands) in
        rw w.is at (before_put u w.j reached
        (may_put M K J q u w.j d ∙ rw (settled_dropped M.target u (drop w.j r) free, t.legs) x.onward)
        (hop_put M K J q u w.j d ∙ rw (settle_none M.target r u w.j free, forth, ← last.jumped, same) (J.put_same q)))
      where
        before_put : (n m : ℕ) → Reached M K (K.put q n m) → may_go M (marked M K) (K.put q n m) d ≡ true → hop M K (K.put q n m) d ≡ q → Before M K q d (K.put q n m)
        before_put n m a b c = record { reached = a; allowed = b; gives = c }

    -- ---- in the document's words: a walk from the source that ends here by that hop
    before_ends : (e : P) → Before M K q d e → EndsBy M K q d
    before_ends e b =
        let same : new_of M K e ≡ new_of M K q = sym (hop_new M K J e d) ∙ ap (new_of M K) b.gives in
        (b.reached.0, rw same at (goes_append M K J (new_of M K e) b.reached.0 e (d ∷ []) q b.reached.1 (b.allowed, b.gives)))

  -- The last hop of a walk.
  last_hop : (p : P) (ds : List ℕ) (q : P) (d : ℕ) → Goes M K p (ds ++ (d ∷ [])) q → (e : P) × Goes M K p ds e × (may_go M (marked M K) e d ≡ true) × (hop M K e d ≡ q)
  last_hop p [] q d g = (p, refl, g.0, g.1)
  last_hop p (c ∷ ds) q d g = let rest = last_hop (hop M K p c) ds q d g.1 in (rest.0, (g.0, rest.1), rest.2, rest.3)

  ends_before : (q : P) (d : ℕ) → EndsBy M K q d → (e : P) × Before M K q d e
  unfolding new_of
  ends_before q d h =
      let l = last_hop (new_of M K q) h.0 q d h.1 in
      let same : new_of M K l.0 ≡ new_of M K q = goes_new M K J (new_of M K q) h.0 l.0 l.1 ∙ new_put M K J q _ _ in
      (l.0, record { reached = (h.0, rw same l.1); allowed = l.2; gives = l.3 })

  -- The theorem: of every packet that 14 leaves, and every direction.
  pub taken_back : (q : P) (d : ℕ) → Formed M K q → TakenBack M K q d (take_back M B K q d)
  taken_back q d f = record {
    granted = λ e. (taken_before q d f e, before_taken q d f e);
    only = λ e g b c. some_same e g (sym (before_taken q d f e b) ∙ before_taken q d f g c);
    refused = (
      λ n h. let b = ends_before q d h in none_some b.0 (sym n ∙ before_taken q d f b.0 b.1),
      λ h. by (take_back M B K q d) refl h,
    );
  }
    where
      some_same : (e g : P) → some e ≡ some g → e ≡ g
      some_same e g h = cc

      by : (o : Option P) → take_back M B K q d ≡ o → (EndsBy M K q d → ⊥) → o ≡ none
      by none e h = refl
      by (some b) e h = absurd (h (before_ends q d f b (taken_before q d f b e)))

  -- ---- the call
  module _ (Good : P → Type 0) (C : CheckLaws M K Good) where
    abbrev hopped_to : P → Stepped P
    hopped_to e = record { packet = e; number = 0 }

    -- A step that is not declined.
    record Went (q : P) (d : ℕ) : Type 0 where
      good : Good q
      formed : Formed M K q
      allowed : may_go M (marked M K) q d ≡ true
      is : step M (marked M K) q d ≡ hopped_to (hop M K q d)

    step_is : (q : P) (d : ℕ) → Good q → Formed M K q → may_go M (marked M K) q d ≡ true → step M (marked M K) q d ≡ hopped_to (hop M K q d)
    unfolding step tried
    step_is q d g f a = rw (C.passes q g f, a)

    good_hop : (q : P) (d : ℕ) → Good q → Good (hop M K q d)
    unfolding hop
    good_hop q d g = C.good_put q _ _ g

    went : (q : P) (d : ℕ) → (step M (marked M K) q d).number ≡ 0 → Went q d
    unfolding step tried
    went q d h =
        test (eqb (K.check q) 0)
        (λ t. test (may_go M (marked M K) q d)
        (λ a.
        let g = C.good q (eqb-true _ _ t) in
        let f = C.formed q (eqb-true _ _ t) in
        record { good = g; formed = f; allowed = a; is = step_is q d g f a })
        (λ a. absurd (omega (arith, rw (t, a) at h))))
        (λ t. absurd (eqb-false _ _ t (rw t at h)))

    pub back_some : (q e : P) (d : ℕ) → Good q → Formed M K q → Before M K q d e → back M B K q d ≡ hopped_to e
    unfolding back
    back_some q e d g f b = rw (C.passes q g f, before_taken q d f e b)

    pub granted : (q e : P) (d : ℕ) → back M B K q d ≡ hopped_to e → Good q × Formed M K q × Before M K q d e
    unfolding back
    granted q e d h =
        test (eqb (K.check q) 0)
        (λ t. let f = C.formed q (eqb-true _ _ t) in (C.good q (eqb-true _ _ t), f, taken_before q d f e (by (take_back M B K q d) (rw t at h))))
        (λ t. absurd (eqb-false _ _ t (ap (λ w. w.number) (rw t at h))))
      where
        by : (o : Option P) → back_answer M B K q o ≡ hopped_to e → o ≡ some e
        by none g = absurd (omega (arith, ap (λ w. w.number) g))
        by (some b) g = ap some (ap (λ w. w.packet) g)

    formed_before : (q e : P) (d : ℕ) → Formed M K q → Before M K q d e → Formed M K e
    unfolding allows
    formed_before q e d f b =
        let k = hopped q d e b.gives in
        let s = reached_stands M K J e b.reached in
        record {
          source = rw k.source at f.source;
          node = below (drop (K.mark e) (K.route e)) refl s.on (rw k.source at f.source) (rw k.route at f.route);
          route = rw k.route at f.route;
          mark = s.within;
        }
      where
        below : (ls : List Leg) → drop (K.mark e) (K.route e) ≡ ls → Way M (begin M B K e (K.mark e)) (K.node e) ls → K.source e < M.size → Inside M (K.route e) → K.node e < M.size
        below [] g w hs hr = rw w (begins_below M (K.source e) (K.route e) (K.mark e) hs hr)
        below (l ∷ ls) g w hs hr = rw w.2 at (walk_inside M L l _ w.0 (begins_below M (K.source e) (K.route e) (K.mark e) hs hr) (leg_below M (K.route e) (K.mark e) l ls hr g) w.1)

    -- What is not granted is 18.
    pub not_granted : (q : P) (d : ℕ) → K.check q ≡ 0 → ((back M B K q d).number ≡ 0 → ⊥) → back M B K q d ≡ record { packet = q; number = not_back }
    unfolding back
    not_granted q d c = rw c (by (take_back M B K q d))
      where
        by : (o : Option P) → ((back_answer M B K q o).number ≡ 0 → ⊥) → back_answer M B K q o ≡ record { packet = q; number = not_back }
        by none h = refl
        by (some e) h = absurd (h refl)

    pub undoing : Undoing M B K
    unfolding back
    undoing = record {
      undone = λ q d r h.
          let w = went q d h in
          rw w.is (back_some (hop M K q d) q d (good_hop q d w.good) (formed_hop M L K J q d w.formed w.allowed) (record { reached = r; allowed = w.allowed; gives = refl }));
      redone = λ q e d h.
          let g = granted q e d h in
          let same : K.put q (K.node e) (K.mark e) ≡ e = (hopped q d e g.2.gives).before in
          step_is e d (rw same at (C.good_put q (K.node e) (K.mark e) g.0)) (formed_before q e d g.1 g.2) g.2.allowed ∙ ap hopped_to g.2.gives;
      refused = λ q d c. let t = (taken_back q d (C.formed q c)).refused in (
        λ h. t.0 (none_of q d c (take_back M B K q d) h),
        λ h. rw (c, t.1 h),
      );
      otherwise = not_granted;
    }
      where
        none_of : (q : P) (d : ℕ) → K.check q ≡ 0 → (o : Option P) → cond (eqb (K.check q) 0) (back_answer M B K q o) (record { packet = q; number = K.check q }) ≡ record { packet = q; number = not_back } → o ≡ none
        none_of q d c none h = refl
        none_of q d c (some e) h = let g : ◌≡◌ {A = Stepped P} (hopped_to e) (record { packet = q; number = not_back }) = rw c at h in absurd (omega (arith, ap (λ w. w.number) g))
