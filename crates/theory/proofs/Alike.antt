-- Where each leg of a route has the same walks in two machines, every list of calls runs alike in both.
use Prim.Native.Nat.{ℕ}
use mathlib.Core.Path.{◌≡◌, refl, sym, ap, ◌∙◌}
use mathlib.Core.Bool.{Bool, true, false≢true}
use mathlib.Core.List.{List, [], ◌∷◌}
use lib.Dec.{eqb}
use Rattle.theory.specs.Machine.{Machine, dropped, allows}
use Rattle.theory.specs.Run.{Call, Step, Walk, Run, at, start, takes, moved, offered, called, ran}
use Rattle.theory.specs.Packet.{Packets, HopLaws, judged, may_go, arrived, tried, step, goes, walk, after, after_all}
use Rattle.theory.specs.Alike.{allowing, SameWalks, SameLegs, SameAnswer, SameAnswers, RunsAlike}
use Rattle.theory.proofs.Cases.{test}
use Rattle.theory.proofs.Drops.{dropped_keeps}
use Rattle.theory.proofs.Bools.{same_test}

module _ {Leg : Type 0} (M : Machine Leg) (other : Leg → ℕ → ℕ → Bool) where
  abbrev N : Machine Leg
  N = allowing M other

  -- ---- one leg
  -- What keeps the walks of a leg the same: wherever Q holds the machines allow the same directions, and each of these leads to where it holds again.
  pub same_walks :
      (l : Leg) (Q : ℕ → Type 0) →
      ((p d : ℕ) → Q p → M.allowed l p d ≡ other l p d) →
      ((p d : ℕ) → Q p → M.allowed l p d ≡ true → Q (M.next p d)) →
      (p : ℕ) → Q p → SameWalks M N l p
  same_walks l Q same on p q [] = (λ _. tt, λ _. tt)
  same_walks l Q same on p q (d ∷ ds) = (
    λ w. (sym (same p d q) ∙ w.0, (same_walks l Q same on (M.next p d) (on p d q w.0) ds).0 w.1),
    λ w. let a = same p d q ∙ w.0 in (a, (same_walks l Q same on (M.next p d) (on p d q a) ds).1 w.1),
  )

  same_allowed : (l : Leg) (p d : ℕ) → SameWalks M N l p → M.allowed l p d ≡ other l p d
  same_allowed l p d w = same_test _ _ (λ a. ((w (d ∷ [])).0 (a, tt)).0) (λ a. ((w (d ∷ [])).1 (a, tt)).0)

  -- One hop on.
  pub walks_on : (l : Leg) (p d : ℕ) → M.allowed l p d ≡ true → SameWalks M N l p → SameWalks M N l (M.next p d)
  walks_on l p d a w ds = (λ k. ((w (d ∷ ds)).0 (a, k)).1, λ k. ((w (d ∷ ds)).1 (sym (same_allowed l p d w) ∙ a, k)).1)

  -- ---- the legs left
  abbrev Same : ℕ → List Leg → Type 0
  Same p ls = SameLegs M N p ls

  same_dropped : (p : ℕ) (ls : List Leg) → Same p ls → Same p (dropped M.target p ls)
  same_dropped p = dropped_keeps M.target p (λ ls. Same p ls) (λ l ls e k. rw e at k.1)

  same_allows : (p d : ℕ) (ls : List Leg) → Same p ls → allows M p ls d ≡ allows N p ls d
  unfolding allows
  same_allows p d [] k = refl
  same_allows p d (l ∷ ls) k = same_allowed l p d k.0

  same_on : (p d : ℕ) (ls : List Leg) → allows M p ls d ≡ true → Same p ls → Same (M.next p d) ls
  unfolding allows
  same_on p d [] a k = absurd (false≢true a)
  same_on p d (l ∷ ls) a k = (walks_on l p d a k.0, k.1)

  -- ---- runs
  abbrev SameRun : Run Leg → Type 0
  SameRun r = Same r.place r.legs

  same_moved : (r : Run Leg) (d : ℕ) → takes M r d ≡ true → SameRun r → SameRun (moved M r d)
  unfolding moved at
  same_moved r d t k = same_dropped (M.next r.place d) r.legs (same_on r.place d r.legs t k)

  same_offered : (r : Run Leg) (ds : List ℕ) → SameRun r → (offered M r ds ≡ offered N r ds) × SameRun (offered M r ds)
  unfolding offered moved at
  same_offered r [] k = (refl, k)
  same_offered r (d ∷ ds) k =
      rw (sym (same_allows r.place d r.legs k)) (test (takes M r d)
      (λ t. rw t (same_offered (moved M r d) ds (same_moved r d t k)))
      (λ t. rw t (refl, k)))

  same_called : (r : Run Leg) (c : Call) → SameRun r → (called M r c ≡ called N r c) × SameRun (called M r c)
  unfolding called
  same_called r (Step d) k = same_offered r (d ∷ []) k
  same_called r (Walk ds) k = same_offered r ds k

  same_ran : (r : Run Leg) (cs : List Call) → SameRun r → ran M r cs ≡ ran N r cs
  unfolding ran
  same_ran r [] k = refl
  same_ran r (c ∷ cs) k = let one = same_called r c k in rw (← one.0) (same_ran (called M r c) cs one.1)

  -- ---- packets
  -- The laws of hops do not ask which directions are allowed.
  pub hops_same : {P : Type 0} (K : Packets Leg P) → HopLaws M K → HopLaws N K
  hops_same K S = record { node_hop = S.node_hop; legs_hop = S.legs_hop }

  module _ {P : Type 0} (K : Packets Leg P) (S : HopLaws M K) where
    -- The legs left have the same walks in both.
    abbrev Kept : P → Type 0
    Kept q = Same (K.node q) (judged M K q)

    same_way : (q : P) (d : ℕ) → Kept q → may_go M K q d ≡ may_go N K q d
    same_way q d k = same_allows (K.node q) d (judged M K q) k

    kept_hop : (q : P) (d : ℕ) → may_go M K q d ≡ true → Kept q → Kept (K.hop q d)
    kept_hop q d t k =
        let next = M.next (K.node q) d in
        rw (S.node_hop q d, S.legs_hop q d) (same_dropped next _ (same_dropped next _ (same_on (K.node q) d (judged M K q) t k)))

    same_goes : (q : P) (ds : List ℕ) → Kept q → (goes M K q ds ≡ goes N K q ds) × Kept (goes M K q ds).packet
    unfolding goes
    same_goes q [] k = test (arrived M K q) (λ e. rw e (refl, k)) (λ e. rw e (refl, k))
    same_goes q (d ∷ ds) k =
        test (arrived M K q)
        (λ e. rw e (refl, k))
        (λ e. rw (e, sym (same_way q d k)) (test (may_go M K q d)
        (λ t. rw t (let on = same_goes (K.hop q d) ds (kept_hop q d t k) in (rw on.0, on.1)))
        (λ t. rw t (refl, k))))

    same_walk : (q : P) (ds : List ℕ) → Kept q → (walk M K q ds ≡ walk N K q ds) × Kept (walk M K q ds).packet
    unfolding walk
    same_walk q ds k = test (eqb (K.check q) 0) (λ e. rw e (same_goes q ds k)) (λ e. rw e (refl, k))

    same_step : (q : P) (d : ℕ) → Kept q → (step M K q d ≡ step N K q d) × Kept (step M K q d).packet
    unfolding step tried
    same_step q d k =
        test (eqb (K.check q) 0)
        (λ e. rw (e, sym (same_way q d k)) (test (may_go M K q d) (λ t. rw t (refl, kept_hop q d t k)) (λ t. rw t (refl, k))))
        (λ e. rw e (refl, k))

    same_call : (q : P) (c : Call) → Kept q → SameAnswer M N K q c × (after M K q c ≡ after N K q c) × Kept (after M K q c)
    unfolding after
    same_call q (Step d) k = let one = same_step q d k in (one.0, ap (λ w. w.packet) one.0, one.1)
    same_call q (Walk ds) k = let one = same_walk q ds k in (one.0, ap (λ w. w.packet) one.0, one.1)

    same_calls : (q : P) (cs : List Call) → Kept q → SameAnswers M N K q cs × (after_all M K q cs ≡ after_all N K q cs)
    unfolding after_all
    same_calls q [] k = (tt, refl)
    same_calls q (c ∷ cs) k =
        let one = same_call q c k in
        let rest = same_calls (after M K q c) cs one.2 in
        ((one.0, rest.0), rw (← one.1) rest.1)

    -- The theorem: of every packet at the source with the route's legs left, as they are judged.
    pub runs_alike :
        (source : ℕ) (route : List Leg) (new : P) → K.node new ≡ source → judged M K new ≡ dropped M.target source route → SameLegs M N source route →
        (calls : List Call) → RunsAlike M N K source route new calls
    unfolding at
    runs_alike source route new node legs k calls =
        let both = same_calls new calls (rw (legs, node) (same_dropped source route k)) in
        record { answers = both.0; packet = both.1; run = same_ran (start M source route) calls (same_dropped source route k) }
