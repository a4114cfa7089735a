-- The claim about a list of calls in which hops are taken back too holds.
use Prim.Native.Nat.{ℕ, suc, ◌+◌, ◌<◌, ◌≤◌}
use native.Mathlib.Omega.{arith}
use mathlib.Core.Path.{◌≡◌, refl, sym, ap, ◌∙◌}
use mathlib.Core.Bool.{Bool, true}
use mathlib.Core.List.{List, [], ◌∷◌, ◌++◌, append_assoc}
use lib.ListN.{length, drop, length-append, length-drop}
use Rattle.theory.specs.Machine.{Machine, Laws, Inside, hops_of}
use Rattle.theory.specs.Clear.{ClearLegs}
use Rattle.theory.specs.Run.{Call, Run, count, at, start, takes, moved, called}
use Rattle.theory.specs.Packet.{may_go, after}
use Rattle.theory.specs.Claim.{Claim}
use Rattle.theory.specs.Marks.{Marks, MarkLaws, CheckLaws, new_of, hop, marked, New, Goes, Reached}
use Rattle.theory.specs.Back.{Before, Backward, BackLaws, back}
use Rattle.theory.specs.BackClaim.{AnyCall, Forth, Back, TakesAll, RunBefore, TellsBack, BackClaim}
use Rattle.theory.proofs.Drops.{settled_dropped}
use Rattle.theory.proofs.Claim.{Starts, Together, together_start, together_holds, together_call, together_check, together_way, together_hop, claim}
use Rattle.theory.proofs.Marks.{settle_within, inside_drop, hop_new, new_mark, new_node, new_judged, Held, marked_laws}
use Rattle.theory.proofs.Reached.{reached_stands, goes_new, goes_append}
use Rattle.theory.proofs.Back.{back_some, granted, not_granted}

-- ---- runs and their hops
module _ {Leg : Type 0} (M : Machine Leg) where
  takes_append : (r : Run Leg) (ds : List ℕ) (t : Run Leg) (es : List ℕ) (u : Run Leg) → TakesAll M r ds t → TakesAll M t es u → TakesAll M r (ds ++ es) u
  takes_append r [] t es u g h = rw (sym g) at h
  takes_append r (d ∷ ds) t es u g h = (g.0, takes_append (moved M r d) ds t es u g.1 h)

  takes_last : (r : Run Leg) (ds : List ℕ) (d : ℕ) (t : Run Leg) → TakesAll M r (ds ++ (d ∷ [])) t → (b : Run Leg) × TakesAll M r ds b × (takes M b d ≡ true) × (moved M b d ≡ t)
  takes_last r [] d t g = (r, refl, g.0, g.1)
  takes_last r (e ∷ ds) d t g = let rest = takes_last (moved M r e) ds d t g.1 in (rest.0, (g.0, rest.1), rest.2, rest.3)

  taken_all : (r : Run Leg) (ds : List ℕ) (t : Run Leg) → TakesAll M r ds t → t.taken ≡ r.taken ++ ds
  unfolding moved at
  taken_all r [] t g = sym (ap (λ u. u.taken) g) ∙ nothing r.taken
    where
      nothing : (ds : List ℕ) → ds ≡ ds ++ []
      nothing [] = refl
      nothing (e ∷ es) = ap (λ xs. e ∷ xs) (nothing es)
  taken_all r (d ∷ ds) t g = taken_all (moved M r d) ds t g.1 ∙ append_assoc r.taken (d ∷ []) ds

  takes_as : (r t : Run Leg) (ds es : List ℕ) → ds ≡ es → TakesAll M r ds t → TakesAll M r es t
  takes_as r t ds es e g = rw e at g

  count_moved : (b : Run Leg) (d : ℕ) → count (moved M b d) ≡ suc (count b)
  unfolding moved at
  count_moved b d = omega (arith, length-append b.taken (d ∷ []))

-- Marks with the same legs left are the same.
drop_same : {A : Type 0} (xs : List A) (m n : ℕ) → m ≤ length xs → n ≤ length xs → drop m xs ≡ drop n xs → m ≡ n
drop_same xs m n hm hn e = omega (arith, length-drop m xs, length-drop n xs, ap length e)

module _ {Leg P : Type 0} (M : Machine Leg) (K : Marks Leg P) (J : MarkLaws K) where
  -- Hops leave all but the node and the mark.
  goes_put : (p : P) (ds : List ℕ) (q : P) → Goes M K p ds q → q ≡ K.put p (K.node q) (K.mark q)
  unfolding hop
  goes_put p [] q g = rw g (sym (J.put_same q))
  goes_put p (d ∷ ds) q g = goes_put (hop M K p d) ds q g.1 ∙ J.put_put p _ _ _ _

module _
    {Leg P : Type 0} (M : Machine Leg) (L : Laws M) (B : Backward Leg) (H : BackLaws M B) (K : Marks Leg P) (J : MarkLaws K) (Good : P → Type 0) (C : CheckLaws M K Good)
    (sound : ℕ → ℕ → Bool) (source : ℕ) (route : List Leg) (at_node : source < M.size) (inside : Inside M route) (clear : ClearLegs M sound source route) where
  abbrev S₀ : Run Leg
  S₀ = start M source route

  -- ---- the new packet
  module _ (new : P) (n : New M K Good source route new) where
    pub starts_new : Starts M L (marked M K) (Held M K J Good) (marked_laws M K J Good C) sound source route new
    starts_new = record {
      at = at_node;
      inside = inside;
      clear = clear;
      good = record {
        good = n.good;
        source = rw n.from at_node;
        route = rw n.with inside;
        mark = rw (new_mark M K J Good source route new n, n.with) (settle_within M.target route source 0 (omega arith));
      };
      targets = rw n.with (inside_drop M L K J (K.mark new) route inside);
      node = new_node M K J Good source route new n;
      legs = new_judged M K J Good source route new n;
    }

    -- The claim about a list of step and walk calls.
    pub marked_claim : (calls : List Call) → Claim M (marked M K) sound source route new calls
    marked_claim = claim M L (marked M K) (Held M K J Good) (marked_laws M K J Good C) sound source route new starts_new

    -- ---- a packet and a run with the same hops
    record Along (q : P) (r : Run Leg) : Type 0 where
      goes : Goes M K new r.taken q
      taken : TakesAll M S₀ r.taken r

    along_hop : (q : P) (r : Run Leg) (d : ℕ) → may_go M (marked M K) q d ≡ true → takes M r d ≡ true → Along q r → Along (hop M K q d) (moved M r d)
    unfolding moved at
    along_hop q r d a t h = record {
      goes = goes_append M K J new r.taken q (d ∷ []) (hop M K q d) h.goes (a, refl);
      taken = takes_append M S₀ r.taken r (d ∷ []) (moved M r d) h.taken (t, refl);
    }

    abbrev With : P → Run Leg → Type 0
    With = Together M L (marked M K) (Held M K J Good) (marked_laws M K J Good C) sound source route Along along_hop

    first : With new S₀
    unfolding at
    first = together_start M L (marked M K) (Held M K J Good) (marked_laws M K J Good C) sound source route Along along_hop new starts_new (record { goes = refl; taken = refl })

    way : (q : P) (r : Run Leg) (d : ℕ) → With q r → may_go M (marked M K) q d ≡ takes M r d
    way = together_way M L (marked M K) (Held M K J Good) (marked_laws M K J Good C) sound source route Along along_hop

    on : (q : P) (r : Run Leg) (d : ℕ) → takes M r d ≡ true → With q r → With (hop M K q d) (moved M r d)
    on = together_hop M L (marked M K) (Held M K J Good) (marked_laws M K J Good C) sound source route Along along_hop

    checked : (q : P) (r : Run Leg) → With q r → K.check q ≡ 0
    checked = together_check M L (marked M K) (Held M K J Good) (marked_laws M K J Good C) sound source route Along along_hop

    -- The packet of a run, and the run of a packet.
    packet_of_law : (q : P) (r : Run Leg) (ds : List ℕ) (b : Run Leg) → With q r → TakesAll M r ds b → (e : P) × With e b
    packet_of_law q r [] b w g = (q, rw g at w)
    packet_of_law q r (d ∷ ds) b w g = packet_of_law (hop M K q d) (moved M r d) ds b (on q r d g.0 w) g.1

    run_of : (q : P) (r : Run Leg) (ds : List ℕ) (e : P) → With q r → Goes M K q ds e → (b : Run Leg) × With e b
    run_of q r [] e w g = (r, rw g at w)
    run_of q r (d ∷ ds) e w g = run_of (hop M K q d) (moved M r d) ds e (on q r d (sym (way q r d w) ∙ g.0) w) g.1

    new_of_law : (q : P) (r : Run Leg) → With q r → new_of M K q ≡ new
    new_of_law q r w = goes_new M K J new r.taken q w.along.goes ∙ n.new

    reached : (q : P) (r : Run Leg) → With q r → Reached M K q
    reached q r w = (r.taken, rw (new_of_law q r w) w.along.goes)

    -- The place and the legs left tell the packet.
    record Stored (q : P) (r : Run Leg) : Type 0 where
      is : q ≡ K.put new r.place (K.mark q)
      within : K.mark q ≤ length route
      legs : drop (K.mark q) route ≡ r.legs

    stored : (q : P) (r : Run Leg) → With q r → Stored q r
    stored q r w =
        let is = goes_put M K J new r.taken q w.along.goes in
        let routes : K.route q ≡ route = ap K.route is ∙ J.route_put new _ _ ∙ n.with in
        let s = reached_stands M K J q (reached q r w) in
        record {
          is = is ∙ ap (λ p. K.put new p (K.mark q)) w.same_place;
          within = rw routes at s.within;
          legs = ap (drop (K.mark q)) (sym routes) ∙ sym (settled_dropped M.target (K.node q) _ s.settled) ∙ w.same_legs;
        }

    same_packet : (q e : P) (r t : Run Leg) → With q r → With e t → t.place ≡ r.place → t.legs ≡ r.legs → e ≡ q
    same_packet q e r t w x ep el =
        let a = stored q r w in
        let b = stored e t x in
        let mark : K.mark e ≡ K.mark q = drop_same route _ _ b.within a.within (b.legs ∙ el ∙ sym a.legs) in
        b.is ∙ rw (ep, mark) (sym a.is)

    -- ---- a hop taken back
    module _ (q : P) (r : Run Leg) (d : ℕ) (w : With q r) where
      before_of : (b : Run Leg) → RunBefore M source route r d b → (e : P) × With e b × Before M K q d e
      before_of b x =
          let p = packet_of_law new S₀ b.taken b first x.taken in (
            p.0,
            p.1,
            record {
              reached = reached p.0 b p.1;
              allowed = way p.0 b d p.1 ∙ x.allowed;
              gives = same_packet q (hop M K p.0 d) r (moved M b d) w (on p.0 b d x.allowed p.1) x.place x.legs;
            },
          )

      run_by : (e : P) (b : Run Leg) → With e b → Before M K q d e → RunBefore M source route r d b
      run_by e b v x =
          let t : takes M b d ≡ true = sym (way e b d v) ∙ x.allowed in
          let j : With q (moved M b d) = rw x.gives at (on e b d t v) in
          record { taken = v.along.taken; allowed = t; place = sym j.same_place ∙ w.same_place; legs = sym j.same_legs ∙ w.same_legs }

      run_before : (e : P) → Before M K q d e → (b : Run Leg) × RunBefore M source route r d b
      run_before e x =
          let from : new_of M K e ≡ new = sym (hop_new M K J e d) ∙ ap (new_of M K) x.gives ∙ new_of_law q r w in
          let p = run_of new S₀ x.reached.0 e first (rw from at x.reached.1) in
          (p.0, run_by e p.0 p.1 x)

      -- What the call answers.
      abbrev answered : P → Type 0
      answered e = back M B K q d ≡ record { packet = e; number = 0 }

      grants : (b : Run Leg) (x : RunBefore M source route r d b) → answered (before_of b x).0
      grants b x = back_some M L B H K J Good C q _ d (C.good q (checked q r w)) (C.formed q (checked q r w)) (before_of b x).2

      granted_run : (back M B K q d).number ≡ 0 → (b : Run Leg) × RunBefore M source route r d b
      granted_run h = run_before (back M B K q d).packet (granted M L B H K J Good C q (back M B K q d).packet d (λ i. record { packet = (back M B K q d).packet; number = h i })).2

      one_fewer : (b : Run Leg) → RunBefore M source route r d b → count r ≡ suc (count b)
      one_fewer b x =
          let e = before_of b x in
          let j = on e.0 b d x.allowed e.1 in
          let later : count (moved M b d) + hops_of M r.place r.legs ≡ hops_of M source route = rw (x.place, x.legs) at j.ahead.total in
          omega (arith, w.ahead.total, count_moved M b d)

      tells_back : TellsBack M B K sound source route q r d
      unfolding moved at
      tells_back = record {
        granted = (granted_run, λ p. ap (λ a. a.number) (grants p.0 p.1));
        refused = not_granted M L B H K J Good C q d (checked q r w);
        fewer = one_fewer;
        struck = λ ds e.
            let p = takes_last M S₀ ds d r (takes_as M S₀ r r.taken (ds ++ (d ∷ [])) e w.along.taken) in
            let same = taken_all M S₀ ds p.0 p.1 in
            (p.0, same, record { taken = takes_as M S₀ p.0 ds p.0.taken (sym same) p.1; allowed = p.2; place = ap (λ t. t.place) p.3; legs = ap (λ t. t.legs) p.3 });
      }

    back_claims : (q : P) (r : Run Leg) (calls : List AnyCall) → With q r → BackClaim M B K sound source route q r calls
    back_claims q r [] w = together_holds M L (marked M K) (Held M K J Good) (marked_laws M K J Good C) sound source route Along along_hop q r w
    back_claims q r (Forth c ∷ cs) w =
        let one = together_call M L (marked M K) (Held M K J Good) (marked_laws M K J Good C) sound source route Along along_hop q r c w in
        (one.0, back_claims (after M (marked M K) q c) (called M r c) cs one.1)
    back_claims q r (Back d ∷ cs) w = (
      tells_back q r d w,
      λ b x. rw (grants q r d w b x) (back_claims (before_of q r d w b x).0 b cs (before_of q r d w b x).1),
      λ none. rw ((tells_back q r d w).refused (λ z. let p = granted_run q r d w z in none p.0 p.1)) (back_claims q r cs w),
    )

    -- The theorem: of a new packet of a clear route.
    pub back_claim : (calls : List AnyCall) → BackClaim M B K sound source route new (start M source route) calls
    back_claim calls = back_claims new S₀ calls first
