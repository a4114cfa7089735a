-- The claim about a list of calls holds.
use Prim.Native.Nat.{ℕ, suc, ◌+◌, ◌<◌}
use native.Mathlib.Omega.{arith}
use mathlib.Core.Path.{◌≡◌, refl, ◌∙◌}
use mathlib.Core.Logic.{◌↔◌}
use mathlib.Core.Bool.{Bool, true, false, cond, false≢true}
use mathlib.Core.List.{List, [], ◌∷◌, ◌++◌}
use lib.ListN.{length, length-append}
use Rattle.theory.specs.Machine.{Machine, Laws, Inside, end_by, sum_by, hops_of, end_of, dropped, allows}
use Rattle.theory.specs.Clear.{Sound, ClearLegs, lead}
use Rattle.theory.specs.Run.{Call, Step, Walk, Run, count, at, start, takes, moved, offered, called, ran}
use Rattle.numbers.specs.Numbers.{not_allowed}
use Rattle.theory.specs.Packet.{Packets, PacketLaws, Walked, judged, may_go, arrived, is_none, Ending, Arrived, NotAllowed, UsedUp, halt, further, tried, step, goes, walk, after, after_all}
use Rattle.theory.specs.Claim.{Tells, Told, Holds, Claim}
use Rattle.theory.proofs.Cases.{test}
use Rattle.theory.proofs.Drops.{dropped_keeps, Settled, dropped_settled, settled_dropped}
use Rattle.theory.proofs.Clear.{clear_on}
use Rattle.theory.proofs.OneMore.{lead_one, sound_one}

module _ {Leg : Type 0} (M : Machine Leg) (L : Laws M) (sound : ℕ → ℕ → Bool) (whole end : ℕ) where
  -- What lies ahead at p with the legs ls left after n hops.
  pub record Ahead (n p : ℕ) (ls : List Leg) : Type 0 where
    pub at : p < M.size
    pub inside : Inside M ls
    pub total : n + hops_of M p ls ≡ whole
    pub goal : end_of M p ls ≡ end
    pub clear : ClearLegs M sound p ls

  ahead_drop : (n p : ℕ) (l : Leg) (ls : List Leg) → M.target l ≡ p → Ahead n p (l ∷ ls) → Ahead n p ls
  unfolding sum_by end_by
  ahead_drop n p l ls e a = record {
    at = a.at;
    inside = a.inside.1;
    total = omega (arith, rw e at a.total, L.there p a.at);
    goal = rw e at a.goal;
    clear = rw e at a.clear.1;
  }

  ahead_dropped : (n p : ℕ) (ls : List Leg) → Ahead n p ls → Ahead n p (dropped M.target p ls)
  ahead_dropped n p = dropped_keeps M.target p (λ ls. Ahead n p ls) (ahead_drop n p)

  ahead_hop : (n p d : ℕ) (ls : List Leg) → allows M p ls d ≡ true → Ahead n p ls → (sound p d ≡ true) × Ahead (suc n) (M.next p d) ls
  unfolding sum_by end_by allows
  ahead_hop n p d [] h a = absurd (false≢true h)
  ahead_hop n p d (l ∷ ls) h a =
      let on = clear_on M L sound l p d h a.clear.0 in (
        on.0,
        record {
          at = L.inside l p d a.at a.inside.0 h;
          inside = a.inside;
          total = omega (arith, a.total, L.nearer l p d a.at a.inside.0 h);
          goal = a.goal;
          clear = (on.1, a.clear.1);
        },
      )

  -- With nothing to drop, the legs are used up exactly when the hops are, and before that some direction is allowed.
  record Judged (n p : ℕ) (ls : List Leg) : Type 0 where
    none : (is_none ls ≡ true) ↔ (n ≡ whole)
    at_end : n ≡ whole → p ≡ end
    onward : n < whole → (d : ℕ) × (d < M.ways) × (allows M p ls d ≡ true)

  ahead_judged : (n p : ℕ) (ls : List Leg) → Settled M.target p ls → Ahead n p ls → Judged n p ls
  unfolding sum_by end_by allows
  ahead_judged n p [] s a = record {
    none = (λ _. omega (arith, a.total), λ _. refl);
    at_end = λ _. a.goal;
    onward = λ h. absurd (omega (arith, a.total));
  }
  ahead_judged n p (l ∷ ls) s a =
      let far : M.hops p (M.target l) ≡ 0 → ⊥ = λ z. s (L.here p (M.target l) a.at a.inside.0 z) in
      record {
        none = (λ h. absurd (false≢true h), λ h. absurd (far (omega (arith, a.total))));
        at_end = λ h. absurd (far (omega (arith, a.total)));
        onward = λ _. L.onward l p a.at a.inside.0 s;
      }

  -- `Along q r`: what else goes with the packet and the run, over every hop that is taken.
  module _
      {P : Type 0} (K : Packets Leg P) (Good : P → Type 0) (S : PacketLaws M K Good) (source : ℕ)
      (Along : P → Run Leg → Type 0) (along_hop : (q : P) (r : Run Leg) (d : ℕ) → may_go M K q d ≡ true → takes M r d ≡ true → Along q r → Along (K.hop q d) (moved M r d)) where
    -- A packet and a run that go together.
    pub record Joined (q : P) (r : Run Leg) : Type 0 where
      pub along : Along q r
      pub good : Good q
      pub targets : Inside M (K.legs q)
      pub same_place : K.node q ≡ r.place
      pub same_legs : judged M K q ≡ r.legs
      pub settled : Settled M.target r.place r.legs
      pub ahead : Ahead (count r) r.place r.legs
      pub led : lead M source r.taken ≡ r.place
      pub crossed : Sound M sound source r.taken

    -- They agree on what is allowed, and stay together over a hop.
    same_way : (q : P) (r : Run Leg) (d : ℕ) → Joined q r → may_go M K q d ≡ takes M r d
    same_way q r d j = cc (j.same_place, j.same_legs)

    joined_check : (q : P) (r : Run Leg) → Joined q r → K.check q ≡ 0
    joined_check q r j = S.good_check q j.good (rw j.same_place j.ahead.at) j.targets

    joined_hop : (q : P) (r : Run Leg) (d : ℕ) → takes M r d ≡ true → Joined q r → Joined (K.hop q d) (moved M r d)
    unfolding moved at
    joined_hop q r d h j =
        let on = ahead_hop (count r) r.place d r.legs h j.ahead in
        let down = ahead_dropped (suc (count r)) (M.next r.place d) r.legs on.1 in
        let place : K.node (K.hop q d) ≡ M.next r.place d = cc (S.hops.node_hop q d) in
        let legs : K.legs (K.hop q d) ≡ dropped M.target (M.next r.place d) r.legs = cc (S.hops.legs_hop q d) in
        let one : length (r.taken ++ (d ∷ [])) ≡ suc (count r) = omega (arith, length-append r.taken (d ∷ [])) in
        record {
          along = along_hop q r d (same_way q r d j ∙ h) h j.along;
          good = S.good_hop q d j.good;
          targets = rw legs down.inside;
          same_place = place;
          same_legs = rw (place, legs) (settled_dropped M.target _ _ (dropped_settled M.target _ r.legs));
          settled = dropped_settled M.target _ r.legs;
          ahead = rw one down;
          led = cc (lead_one M d source r.taken);
          crossed = sound_one M d sound source r.taken j.crossed (rw j.led on.0);
        }

    -- A walk's answer w and the run r' that its bytes make of r.
    record Went (r : Run Leg) (w : Walked P) (r' : Run Leg) : Type 0 where
      adds : count r' ≡ count r + w.hops
      joined : Joined w.packet r'

    stays : (q : P) (r : Run Leg) (e : Ending) → Joined q r → Went r (halt M K q e) r
    stays q r e j = record { adds = omega arith; joined = j }

    goes_on : (r : Run Leg) (d : ℕ) (w : Walked P) (r' : Run Leg) → Went (moved M r d) w r' → Went r (further M K w) r'
    unfolding moved at
    goes_on r d w r' g = record { adds = omega (arith, g.adds, length-append r.taken (d ∷ [])); joined = g.joined }

    none_allowed : (p d : ℕ) (ls : List Leg) → is_none ls ≡ true → allows M p ls d ≡ false
    unfolding allows
    none_allowed p d [] h = refl
    none_allowed p d (l ∷ ls) h = absurd (false≢true h)

    going : (q : P) (r : Run Leg) (ds : List ℕ) → Joined q r → Went r (goes M K q ds) (offered M r ds)
    unfolding offered goes
    going q r [] j = test (arrived M K q) (λ e. rw e (stays q r Arrived j)) (λ e. rw e (stays q r UsedUp j))
    going q r (d ∷ ds) j =
        test (arrived M K q)
        (λ e. rw (e, ← (same_way q r d j), none_allowed (K.node q) d (judged M K q) e) (stays q r Arrived j))
        (λ e. rw (e, same_way q r d j) (test (takes M r d)
        (λ t. rw t (goes_on r d _ _ (going (K.hop q d) (moved M r d) ds (joined_hop q r d t j))))
        (λ t. rw t (stays q r NotAllowed j))))

    walks : (q : P) (r : Run Leg) (ds : List ℕ) → Joined q r → Went r (walk M K q ds) (offered M r ds)
    unfolding walk
    walks q r ds j = rw (joined_check q r j) (going q r ds j)

    steps : (q : P) (r : Run Leg) (d : ℕ) → Joined q r → ((step M K q d).number ≡ cond (takes M r d) 0 not_allowed) × Joined (step M K q d).packet (offered M r (d ∷ []))
    unfolding step tried offered
    steps q r d j =
        rw (joined_check q r j, same_way q r d j) (test (takes M r d)
        (λ t. rw t (refl, joined_hop q r d t j))
        (λ t. rw t (refl, j)))

    -- A call, and a list of calls.
    tells : (q : P) (r : Run Leg) (c : Call) → Joined q r → Tells M K q r c × Joined (after M K q c) (called M r c)
    unfolding after called
    tells q r (Step d) j = steps q r d j
    tells q r (Walk ds) j = let w = walks q r ds j in (w.adds, w.joined)

    told : (q : P) (r : Run Leg) (cs : List Call) → Joined q r → Told M K q r cs × Joined (after_all M K q cs) (ran M r cs)
    unfolding after_all ran
    told q r [] j = (tt, j)
    told q r (c ∷ cs) j =
        let one = tells q r c j in
        let rest = told (after M K q c) (called M r c) cs one.1 in
        ((one.0, rest.0), rest.1)

    -- What is claimed of them; whole and end are the route's.
    joined_holds : (route : List Leg) (q : P) (r : Run Leg) → whole ≡ hops_of M source route → end ≡ end_of M source route → Joined q r → Holds M K sound source route q r
    joined_holds route q r ew ee j =
        let judge = ahead_judged _ _ _ j.settled j.ahead in
        record {
          same_place = j.same_place;
          led = cc (j.same_place, j.led);
          crossed = j.crossed;
          within = omega (arith, j.ahead.total);
          not_stuck = rw (← ew, j.same_legs, j.same_place) judge.onward;
          when_arrived = rw (← ew, j.same_legs) judge.none;
          at_end = rw (← ew, ← ee, j.same_place) judge.at_end;
        }

-- The theorem: of a packet at the source of a clear route, with the route's legs left, as they are judged.
module _ {Leg P : Type 0} (M : Machine Leg) (L : Laws M) (K : Packets Leg P) (Good : P → Type 0) (S : PacketLaws M K Good) (sound : ℕ → ℕ → Bool) (source : ℕ) (route : List Leg) where
  -- The packet is well stored, and the route clear.
  pub record Starts (new : P) : Type 0 where
    pub at : source < M.size
    pub inside : Inside M route
    pub clear : ClearLegs M sound source route
    pub good : Good new
    pub targets : Inside M (K.legs new)
    pub node : K.node new ≡ source
    pub legs : judged M K new ≡ dropped M.target source route

  module _ (Along : P → Run Leg → Type 0) (along_hop : (q : P) (r : Run Leg) (d : ℕ) → may_go M K q d ≡ true → takes M r d ≡ true → Along q r → Along (K.hop q d) (moved M r d)) where
    abbrev pub Together : P → Run Leg → Type 0
    Together = Joined M L sound (hops_of M source route) (end_of M source route) K Good S source Along along_hop

    pub together_start : (new : P) → Starts new → Along new (start M source route) → Together new (start M source route)
    unfolding at lead
    together_start new n along =
        let first : Ahead M L sound (hops_of M source route) (end_of M source route) 0 source route = record { at = n.at; inside = n.inside; total = omega arith; goal = refl; clear = n.clear } in
        record {
          along = along;
          good = n.good;
          targets = n.targets;
          same_place = n.node;
          same_legs = n.legs;
          settled = dropped_settled M.target source route;
          ahead = ahead_dropped M L sound _ _ 0 source route first;
          led = refl;
          crossed = tt;
        }

    -- They agree on what is allowed, no check declines the packet, and they stay together over a hop.
    pub together_way : (q : P) (r : Run Leg) (d : ℕ) → Together q r → may_go M K q d ≡ takes M r d
    together_way = same_way M L sound (hops_of M source route) (end_of M source route) K Good S source Along along_hop

    pub together_check : (q : P) (r : Run Leg) → Together q r → K.check q ≡ 0
    together_check = joined_check M L sound (hops_of M source route) (end_of M source route) K Good S source Along along_hop

    pub together_hop : (q : P) (r : Run Leg) (d : ℕ) → takes M r d ≡ true → Together q r → Together (K.hop q d) (moved M r d)
    together_hop = joined_hop M L sound (hops_of M source route) (end_of M source route) K Good S source Along along_hop

    pub together_holds : (q : P) (r : Run Leg) → Together q r → Holds M K sound source route q r
    together_holds q r = joined_holds M L sound (hops_of M source route) (end_of M source route) K Good S source Along along_hop route q r refl refl

    pub together_call : (q : P) (r : Run Leg) (c : Call) → Together q r → Tells M K q r c × Together (after M K q c) (called M r c)
    together_call = tells M L sound (hops_of M source route) (end_of M source route) K Good S source Along along_hop

  pub claim : (new : P) → Starts new → (calls : List Call) → Claim M K sound source route new calls
  claim new n calls =
      let all = told M L sound (hops_of M source route) (end_of M source route) K Good S source (λ _ _. Unit {0}) (λ _ _ _ _ _ _. tt) new (start M source route) calls
      (together_start (λ _ _. Unit {0}) (λ _ _ _ _ _ _. tt) new n tt) in
      record { told = all.0; holds = together_holds (λ _ _. Unit {0}) (λ _ _ _ _ _ _. tt) _ _ all.1 }
