-- The packets that allowed hops reach from a new one: each stands on a walk of its leg, or at the end of its route, and each that stands so is reached.
use Prim.Native.Nat.{ℕ, zero, suc, ◌<◌, ◌≤◌}
use native.Mathlib.Omega.{arith}
use mathlib.Core.Path.{◌≡◌, refl, sym, ap, ◌∙◌}
use mathlib.Core.Bool.{true, false≢true}
use mathlib.Core.List.{List, [], ◌∷◌, ◌++◌}
use lib.ListN.{length, drop}
use lib.Dec.{eqb}
use borrow.Author.Tests.{eqb-true, eqb-false}
use Rattle.theory.specs.Machine.{Machine, Laws, Inside, dropped, allows}
use Rattle.theory.specs.Clear.{Allows, lead}
use Rattle.theory.specs.Marks.{Marks, MarkLaws, settle, begins, new_of, hop, Goes, Reached}
use Rattle.theory.proofs.Cases.{test}
use Rattle.theory.proofs.OneMore.{lead_one, allows_one}
use Rattle.theory.proofs.Drops.{Settled, dropped_settled, settled_dropped}
use Rattle.theory.proofs.Marks.{drop_settle, begins_first, here, some_leg, begins_passed, settle_within, settle_none, settle_next, begins_below, leg_below, hop_put, may_put, hop_new}

-- Some walk that the leg l allows from a leads to u.
abbrev pub OnWalk : {Leg : Type 0} → Machine Leg → Leg → ℕ → ℕ → Type 0
OnWalk M l a u = (ds : List ℕ) × Allows M l a ds × (lead M a ds ≡ u)

module _ {Leg : Type 0} (M : Machine Leg) where
  -- ---- walks of one leg
  pub walk_on : (l : Leg) (a u d : ℕ) → OnWalk M l a u → M.allowed l u d ≡ true → OnWalk M l a (M.next u d)
  walk_on l a u d w h = (w.0 ++ (d ∷ []), allows_one M d l a w.0 w.1 (rw w.2 h), lead_one M d a w.0 ∙ ap (λ n. M.next n d) w.2)

  pub no_walk : (l : Leg) (a : ℕ) → OnWalk M l a a
  unfolding lead
  no_walk l a = ([], tt, refl)

  -- ---- where a packet stands that allowed hops have reached: on a walk of its leg, or at the end of its route
  abbrev pub Way : ℕ → ℕ → List Leg → Type 0
  Way a n [] = n ≡ a
  Way a n (l ∷ ls) = OnWalk M l a n

  pub record Stands (S : ℕ) (r : List Leg) (n m : ℕ) : Type 0 where
    pub settled : Settled M.target n (drop m r)
    pub within : m ≤ length r
    pub on : Way (begins M.target S r m) n (drop m r)

  way_start : (n : ℕ) (ls : List Leg) → Way n n ls
  way_start n [] = refl
  way_start n (l ∷ ls) = no_walk l n

  -- With the drops stored, where the leg before ends.
  stands_start : (S : ℕ) (r : List Leg) (n m : ℕ) → m ≤ length r → begins M.target S r m ≡ n → Stands S r n (settle M.target r n m)
  stands_start S r n m h b = record {
    settled = rw (drop_settle M.target r n m) (dropped_settled M.target n (drop m r));
    within = settle_within M.target r n m h;
    on = rw (begins_passed M.target S r n m (drop m r) refl b) (way_start n (drop (settle M.target r n m) r));
  }

  pub stands_new : (S : ℕ) (r : List Leg) → Stands S r S (settle M.target r S 0)
  stands_new S r = stands_start S r S 0 (omega arith) (begins_first M.target S r)

  pub stands_hop :
      (S : ℕ) (r : List Leg) (n m d : ℕ) →
      Stands S r n m →
      allows M n (dropped M.target n (drop m r)) d ≡ true →
      Stands S r (M.next n d) (settle M.target r (M.next n d) (settle M.target r n m))
  unfolding allows
  stands_hop S r n m d s h = rw (settle_none M.target r n m s.settled) (go (drop m r) refl (rw (settled_dropped M.target n (drop m r) s.settled) at h) s.on)
    where
      go : (ls : List Leg) → drop m r ≡ ls → allows M n ls d ≡ true → Way (begins M.target S r m) n ls → Stands S r (M.next n d) (settle M.target r (M.next n d) m)
      go [] e a w = absurd (false≢true a)
      go (l ∷ ls) e a w =
          let k = here M.target S r m l ls e in
          test (eqb (M.target l) (M.next n d))
          (λ t.
          let b = eqb-true _ _ t in
          rw (settle_next M.target r (M.next n d) m l ls e b) (stands_start S r (M.next n d) (suc m) k.below (k.ends ∙ b)))
          (λ t.
          let free : Settled M.target (M.next n d) (drop m r) = rw e (eqb-false _ _ t) in
          rw (settle_none M.target r (M.next n d) m free) (record { settled = free; within = s.within; on = rw e (walk_on l _ n d w a) }))

module _ {Leg P : Type 0} (M : Machine Leg) (K : Marks Leg P) (J : MarkLaws K) where
  -- ---- packets that are reached
  abbrev pub StandsAs : P → Type 0
  StandsAs q = Stands M (K.source q) (K.route q) (K.node q) (K.mark q)

  pub stands_put : (q : P) (n m : ℕ) → Stands M (K.source q) (K.route q) n m → StandsAs (K.put q n m)
  stands_put q n m s = rw (J.node_put q n m, J.mark_put q n m, J.route_put q n m, J.source_put q n m) s

  pub stands_goes : (q : P) (ds : List ℕ) (e : P) → Goes M K q ds e → StandsAs q → StandsAs e
  unfolding hop
  stands_goes q [] e g s = rw g at s
  stands_goes q (d ∷ ds) e g s = stands_goes (hop M K q d) ds e g.1 (stands_put q _ _ (stands_hop M (K.source q) (K.route q) (K.node q) (K.mark q) d s g.0))

  pub reached_stands : (q : P) → Reached M K q → StandsAs q
  unfolding new_of
  reached_stands q h = stands_goes (new_of M K q) h.0 q h.1 (stands_put q _ _ (stands_new M (K.source q) (K.route q)))

  pub goes_new : (q : P) (ds : List ℕ) (e : P) → Goes M K q ds e → new_of M K e ≡ new_of M K q
  goes_new q [] e g = ap (new_of M K) (sym g)
  goes_new q (d ∷ ds) e g = goes_new (hop M K q d) ds e g.1 ∙ hop_new M K J q d

  pub goes_append : (q : P) (ds : List ℕ) (e : P) (es : List ℕ) (f : P) → Goes M K q ds e → Goes M K e es f → Goes M K q (ds ++ es) f
  goes_append q [] e es f g h = rw (sym g) at h
  goes_append q (d ∷ ds) e es f g h = (g.0, goes_append (hop M K q d) ds e es f g.1 h)

module _ {Leg : Type 0} (M : Machine Leg) (L : Laws M) where
  -- No direction is allowed at a leg's target.
  pub not_there : (l : Leg) (a d : ℕ) → a < M.size → M.target l < M.size → M.allowed l a d ≡ true → M.target l ≡ a → ⊥
  not_there l a d at end h e =
      let z : M.hops a (M.target l) ≡ 0 = rw e (L.there a at) in
      omega (arith, L.nearer l a d at end h)

  -- A walk leads no farther.
  pub walk_nearer : (l : Leg) (a : ℕ) (ds : List ℕ) → a < M.size → M.target l < M.size → Allows M l a ds → M.hops (lead M a ds) (M.target l) ≤ M.hops a (M.target l)
  unfolding lead
  walk_nearer l a [] at end w = omega arith
  walk_nearer l a (d ∷ ds) at end w = omega (arith, L.nearer l a d at end w.0, walk_nearer l (M.next a d) ds (L.inside l a d at end w.0) end w.1)

  pub walk_inside : (l : Leg) (a : ℕ) (ds : List ℕ) → a < M.size → M.target l < M.size → Allows M l a ds → lead M a ds < M.size
  unfolding lead
  walk_inside l a [] at end w = at
  walk_inside l a (d ∷ ds) at end w = walk_inside l (M.next a d) ds (L.inside l a d at end w.0) end w.1

  -- From its target a leg's walks lead nowhere else.
  at_target : (l : Leg) (a u : ℕ) → a < M.size → M.target l < M.size → M.target l ≡ a → (ds : List ℕ) → Allows M l a ds → lead M a ds ≡ u → a ≡ u
  unfolding lead
  at_target l a u at end t [] w e = e
  at_target l a u at end t (d ∷ ds) w e = absurd (not_there l a d at end w.0 t)

  -- Some walk of a leg leads to its target.
  whole_walk : (l : Leg) (k a : ℕ) → a < M.size → M.target l < M.size → M.hops a (M.target l) ≡ k → OnWalk M l a (M.target l)
  unfolding lead
  whole_walk l zero a at end e = ([], tt, sym (L.here a (M.target l) at end e))
  whole_walk l (suc k) a at end e =
      let ne : M.target l ≡ a → ⊥ = λ q. let z : M.hops a (M.target l) ≡ 0 = rw q (L.there a at) in omega arith in
      let on = L.onward l a at end ne in
      let rest = whole_walk l k (M.next a on.0) (L.inside l a on.0 at end on.2) end (omega (arith, L.nearer l a on.0 at end on.2)) in
      (on.0 ∷ rest.0, (on.2, rest.1), rest.2)

  module _ {P : Type 0} (K : Marks Leg P) (J : MarkLaws K) (q : P) where
    abbrev r : List Leg
    r = K.route q

    abbrev To : ℕ → ℕ → P
    To n m = K.put q n (settle M.target r n m)

    abbrev From : ℕ → P
    From j = To (begins M.target (K.source q) r j) j

    -- The packet along a walk of its leg.
    leg_walk :
        (a j : ℕ) (l : Leg) (ls : List Leg) →
        drop j r ≡ l ∷ ls →
        a < M.size →
        M.target l < M.size →
        (M.target l ≡ a → ⊥) →
        (ds : List ℕ) →
        Allows M l a ds →
        Goes M K (K.put q a j) ds (To (lead M a ds) j)
    unfolding lead allows
    leg_walk a j l ls e at end ne [] w = ap (K.put q a) (sym (settle_none M.target r a j (rw e ne)))
    leg_walk a j l ls e at end ne (d ∷ []) w =
        let free : Settled M.target a (drop j r) = rw e ne in
        (may_put M K J q a j d ∙ rw (settled_dropped M.target a (drop j r) free, e) w.0, hop_put M K J q a j d ∙ rw (settle_none M.target r a j free))
    leg_walk a j l ls e at end ne (d ∷ f ∷ ds) w =
        let free : Settled M.target a (drop j r) = rw e ne in
        let on = L.inside l a d at end w.0 in
        let ne' = not_there l (M.next a d) f on end w.1.0 in
        let free' : Settled M.target (M.next a d) (drop j r) = rw e ne' in
        let step : hop M K (K.put q a j) d ≡ K.put q (M.next a d) j = hop_put M K J q a j d ∙ rw (settle_none M.target r a j free, settle_none M.target r (M.next a d) j free') in
        (may_put M K J q a j d ∙ rw (settled_dropped M.target a (drop j r) free, e) w.0, rw step (leg_walk (M.next a d) j l ls e on end ne' (f ∷ ds) w.1))

    module _ (source : K.source q < M.size) (inside : Inside M (K.route q)) where
      abbrev Reach : P → Type 0
      Reach e = (ds : List ℕ) × Goes M K (new_of M K q) ds e

      -- From where leg j begins, not its target, the packet goes wherever a walk of the leg leads.
      leg_reach : (j : ℕ) (l : Leg) (ls : List Leg) (u : ℕ) → drop j r ≡ l ∷ ls → (M.target l ≡ begins M.target (K.source q) r j → ⊥) → OnWalk M l (begins M.target (K.source q) r j) u → Reach (From j) → Reach (To u j)
      leg_reach j l ls u e ne w g =
          let a = begins M.target (K.source q) r j in
          let here : From j ≡ K.put q a j = ap (K.put q a) (settle_none M.target r a j (rw e ne)) in
          let on = leg_walk a j l ls e (begins_below M (K.source q) r j source inside) (leg_below M r j l ls inside e) ne w.0 w.1 in
          (g.0 ++ w.0, goes_append M K J (new_of M K q) g.0 (From j) w.0 (To u j) g.1 (rw here (rw w.2 at on)))

      start : (j : ℕ) → j ≤ length r → Reach (From j)
      unfolding new_of
      start zero h = ([], rw (begins_first M.target (K.source q) r))
      start (suc j) h =
          let s = some_leg M.target (K.source q) r j h in
          let l = s.0 in
          let a = begins M.target (K.source q) r j in
          let before = start j (omega arith) in
          let same : (n : ℕ) → M.target l ≡ n → To n j ≡ To n (suc j) = λ n t. ap (K.put q n) (settle_next M.target r n j l (drop (suc j) r) s.1 t) in
          test (eqb (M.target l) a)
          (λ t. let z = eqb-true _ _ t in rw (s.2 ∙ z) (rw (same a z) at before))
          (λ t.
          let whole = whole_walk l (M.hops a (M.target l)) a (begins_below M (K.source q) r j source inside) (leg_below M r j l _ inside s.1) refl in
          rw s.2 (rw (same (M.target l) refl) at (leg_reach j l (drop (suc j) r) (M.target l) s.1 (eqb-false _ _ t) whole before)))

      -- A packet that stands so is reached.
      pub stands_reached : StandsAs M K J q → Reached M K q
      stands_reached s = go (drop (K.mark q) r) refl s.settled s.on
        where
          a : ℕ
          a = begins M.target (K.source q) r (K.mark q)

          is_q : To (K.node q) (K.mark q) ≡ q
          is_q = ap (K.put q (K.node q)) (settle_none M.target r (K.node q) (K.mark q) s.settled) ∙ J.put_same q

          go : (ls : List Leg) → drop (K.mark q) r ≡ ls → Settled M.target (K.node q) ls → Way M a (K.node q) ls → Reached M K q
          go [] e f w = rw (← w, is_q) at (start (K.mark q) s.within)
          go (l ∷ ls) e f w =
              let at = begins_below M (K.source q) r (K.mark q) source inside in
              let end = leg_below M r (K.mark q) l ls inside e in
              let ne : M.target l ≡ a → ⊥ = λ t. f (t ∙ at_target l a (K.node q) at end t w.0 w.1 w.2) in
              rw is_q at (leg_reach (K.mark q) l ls (K.node q) e ne w (start (K.mark q) s.within))
