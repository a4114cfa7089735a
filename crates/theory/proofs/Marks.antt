-- Laws of marks: the drops that they count, where legs begin, and a packet with another node and mark.
use Prim.Native.Nat.{ℕ, zero, suc, ◌+◌, ◌<◌, ◌≤◌}
use native.Mathlib.Omega.{arith}
use mathlib.Core.Path.{◌≡◌, refl, sym, ap, ◌∙◌}
use mathlib.Core.Bool.{true, false≢true}
use mathlib.Core.List.{List, [], ◌∷◌}
use lib.ListN.{length, drop}
use lib.Seq.{drop-drop}
use lib.Dec.{eqb}
use borrow.Author.Tests.{eqb-true, eq-eqb, ne_eqb}
use Rattle.theory.specs.Machine.{Machine, Laws, Inside, dropped, allows}
use Rattle.theory.specs.Packet.{HopLaws, PacketLaws, judged, may_go}
use Rattle.theory.specs.Marks.{Marks, MarkLaws, CheckLaws, passed, settle, begins, new_of, hop, marked, New, Formed}
use Rattle.theory.proofs.Cases.{test}
use Rattle.theory.proofs.Drops.{dropped_keeps, Settled, dropped_settled, settled_dropped}

add_zero : (m : ℕ) → m + 0 ≡ m
add_zero m = omega arith

add_suc : (m k : ℕ) → m + suc k ≡ suc m + k
add_suc m k = omega arith

module _ {Leg : Type 0} (target : Leg → ℕ) where
  -- ---- the drops
  pub passed_none : (p : ℕ) (ls : List Leg) → Settled target p ls → passed target p ls ≡ 0
  unfolding passed
  passed_none p [] h = refl
  passed_none p (l ∷ ls) h = rw (ne_eqb (target l) p h)

  pub none_settled : (p : ℕ) (ls : List Leg) → passed target p ls ≡ 0 → Settled target p ls
  unfolding passed
  none_settled p [] e = tt
  none_settled p (l ∷ ls) e = λ q. let z : ◌≡◌ {A = ℕ} (suc (passed target p ls)) 0 = rw (eq-eqb (target l) p q) at e in omega arith

  pub passed_one : (p : ℕ) (l : Leg) (ls : List Leg) → target l ≡ p → passed target p (l ∷ ls) ≡ suc (passed target p ls)
  unfolding passed
  passed_one p l ls e = rw (eq-eqb (target l) p e)

  pub drop_passed : (p : ℕ) (ls : List Leg) → drop (passed target p ls) ls ≡ dropped target p ls
  unfolding passed dropped
  drop_passed p [] = refl
  drop_passed p (l ∷ ls) = test (eqb (target l) p) (λ e. rw e (drop_passed p ls)) (λ e. rw e)

  pub drop_settle : (route : List Leg) (p m : ℕ) → drop (settle target route p m) route ≡ dropped target p (drop m route)
  drop_settle route p m = sym (drop-drop (passed target p (drop m route)) m route) ∙ drop_passed p (drop m route)

  pub passed_dropped : (p : ℕ) (ls : List Leg) → passed target p (dropped target p ls) ≡ 0
  passed_dropped p ls = passed_none p (dropped target p ls) (dropped_settled target p ls)

  -- ---- the legs from number i on, and where they begin
  pub begins_first : (p : ℕ) (route : List Leg) → begins target p route 0 ≡ p
  unfolding begins
  begins_first p [] = refl
  begins_first p (l ∷ ls) = refl

  -- Leg number i is l, and ls are the legs behind it.
  pub record Here (p : ℕ) (route : List Leg) (i : ℕ) (l : Leg) (ls : List Leg) : Type 0 where
    pub next : drop (suc i) route ≡ ls
    pub ends : begins target p route (suc i) ≡ target l
    pub below : suc i ≤ length route

  pub here : (p : ℕ) (route : List Leg) (i : ℕ) (l : Leg) (ls : List Leg) → drop i route ≡ l ∷ ls → Here p route i l ls
  unfolding begins
  here p [] zero l ls e = let z : ◌≡◌ {A = ℕ} 0 1 = cc in absurd (omega arith)
  here p [] (suc i) l ls e = let z : ◌≡◌ {A = ℕ} 0 1 = cc in absurd (omega arith)
  here p (k ∷ ks) zero l ls e = record { next = cc; ends = begins_first (target k) ks ∙ cc; below = omega arith }
  here p (k ∷ ks) (suc i) l ls e = let h = here (target k) ks i l ls e in record { next = h.next; ends = h.ends; below = omega (arith, h.below) }

  pub some_leg : (p : ℕ) (route : List Leg) (i : ℕ) → i < length route → (l : Leg) × (drop i route ≡ l ∷ drop (suc i) route) × (begins target p route (suc i) ≡ target l)
  unfolding begins
  some_leg p [] i h = absurd (omega arith)
  some_leg p (l ∷ ls) zero h = (l, refl, begins_first (target l) ls)
  some_leg p (l ∷ ls) (suc i) h = some_leg (target l) ls i (omega arith)

  -- The legs dropped at n begin and end there.
  pub begins_passed : (p : ℕ) (route : List Leg) (n m : ℕ) (ls : List Leg) → drop m route ≡ ls → begins target p route m ≡ n → begins target p route (m + passed target n ls) ≡ n
  unfolding passed
  begins_passed p route n m [] e b = rw (add_zero m) b
  begins_passed p route n m (l ∷ ls) e b =
      let h = here p route m l ls e in
      test (eqb (target l) n)
      (λ t. rw (t, add_suc m (passed target n ls)) (begins_passed p route n (suc m) ls h.next (h.ends ∙ eqb-true _ _ t)))
      (λ t. rw (t, add_zero m) b)

  passed_within : (n : ℕ) (route : List Leg) (m : ℕ) (ls : List Leg) → drop m route ≡ ls → m ≤ length route → m + passed target n ls ≤ length route
  unfolding passed
  passed_within n route m [] e h = omega arith
  passed_within n route m (l ∷ ls) e h =
      let k = here 0 route m l ls e in
      test (eqb (target l) n)
      (λ t. rw (t, add_suc m (passed target n ls)) (passed_within n route (suc m) ls k.next k.below))
      (λ t. rw t (omega arith))

  pub settle_within : (route : List Leg) (n m : ℕ) → m ≤ length route → settle target route n m ≤ length route
  settle_within route n m h = passed_within n route m (drop m route) refl h

  pub settle_none : (route : List Leg) (n m : ℕ) → Settled target n (drop m route) → settle target route n m ≡ m
  settle_none route n m h = rw (passed_none n (drop m route) h) (add_zero m)

  pub settle_next : (route : List Leg) (n m : ℕ) (l : Leg) (ls : List Leg) → drop m route ≡ l ∷ ls → target l ≡ n → settle target route n m ≡ settle target route n (suc m)
  settle_next route n m l ls e t = let h = here 0 route m l ls e in rw (e, h.next, passed_one n l ls t) (add_suc m (passed target n ls))

module _ {Leg : Type 0} (M : Machine Leg) where
  -- ---- nodes
  pub begins_below : (p : ℕ) (route : List Leg) (i : ℕ) → p < M.size → Inside M route → begins M.target p route i < M.size
  unfolding begins
  begins_below p [] i at h = at
  begins_below p (l ∷ ls) zero at h = at
  begins_below p (l ∷ ls) (suc i) at h = begins_below (M.target l) ls i h.0 h.1

  pub leg_below : (route : List Leg) (i : ℕ) (l : Leg) (ls : List Leg) → Inside M route → drop i route ≡ l ∷ ls → M.target l < M.size
  leg_below [] zero l ls h e = let z : ◌≡◌ {A = ℕ} 0 1 = cc in absurd (omega arith)
  leg_below [] (suc i) l ls h e = let z : ◌≡◌ {A = ℕ} 0 1 = cc in absurd (omega arith)
  leg_below (k ∷ ks) zero l ls h e = let q : k ≡ l = cc in rw q at h.0
  leg_below (k ∷ ks) (suc i) l ls h e = leg_below ks i l ls h.1 e

module _ {Leg P : Type 0} (M : Machine Leg) (K : Marks Leg P) (J : MarkLaws K) where
  -- ---- the packet with another node and mark
  pub hop_put : (q : P) (n m d : ℕ) → hop M K (K.put q n m) d ≡ K.put q (M.next n d) (settle M.target (K.route q) (M.next n d) (settle M.target (K.route q) n m))
  unfolding hop
  hop_put q n m d = J.put_put q n m _ _ ∙ rw (J.node_put q n m, J.mark_put q n m, J.route_put q n m)

  pub may_put : (q : P) (n m d : ℕ) → may_go M (marked M K) (K.put q n m) d ≡ allows M n (dropped M.target n (drop m (K.route q))) d
  may_put q n m d = rw (J.node_put q n m, J.mark_put q n m, J.route_put q n m)

  pub new_put : (q : P) (n m : ℕ) → new_of M K (K.put q n m) ≡ new_of M K q
  unfolding new_of
  new_put q n m = J.put_put q n m _ _ ∙ rw (J.source_put q n m, J.route_put q n m)

  -- A hop keeps the source and the route.
  pub hop_new : (q : P) (d : ℕ) → new_of M K (hop M K q d) ≡ new_of M K q
  unfolding hop
  hop_new q d = new_put q _ _

  -- There is a new packet of every source and route.
  pub new_new : (Good : P → Type 0) (q : P) → Good (new_of M K q) → New M K Good (K.source q) (K.route q) (new_of M K q)
  unfolding new_of
  new_new Good q g = record { good = g; from = J.source_put q _ _; with = J.route_put q _ _; new = new_put q _ _ }

  -- A new packet: its node, its mark and the legs that are judged.
  module _ (Good : P → Type 0) (source : ℕ) (route : List Leg) (q : P) (n : New M K Good source route q) where
    pub new_mark : K.mark q ≡ settle M.target route source 0
    unfolding new_of
    new_mark = ap K.mark (sym n.new) ∙ J.mark_put q _ _ ∙ rw (n.from, n.with)

    pub new_node : K.node q ≡ source
    unfolding new_of
    new_node = ap K.node (sym n.new) ∙ J.node_put q _ _ ∙ n.from

    new_legs : drop (K.mark q) (K.route q) ≡ dropped M.target source route
    new_legs = rw (new_mark, n.with) (drop_settle M.target route source 0)

    pub new_judged : judged M (marked M K) q ≡ dropped M.target source route
    new_judged = rw (new_legs, new_node) (settled_dropped M.target source _ (dropped_settled M.target source route))

  -- A packet that keeps what its checks look at, apart from the present node: of such packets the laws of the theory's packets hold.
  pub record Held (Good : P → Type 0) (q : P) : Type 0 where
    pub good : Good q
    pub source : K.source q < M.size
    pub route : Inside M (K.route q)
    pub mark : K.mark q ≤ length (K.route q)

  -- A hop stores the drops.
  abbrev hop_mark : P → ℕ → ℕ
  hop_mark q d = settle M.target (K.route q) (M.next (K.node q) d) (settle M.target (K.route q) (K.node q) (K.mark q))

  pub marked_hops : HopLaws M (marked M K)
  unfolding hop
  marked_hops = record {
    node_hop = λ q d. J.node_put q _ _;
    legs_hop = λ q d. rw (J.mark_put q (M.next (K.node q) d) (hop_mark q d), J.route_put q (M.next (K.node q) d) (hop_mark q d))
        (drop_settle M.target (K.route q) _ _ ∙ ap (dropped M.target (M.next (K.node q) d)) (drop_settle M.target (K.route q) (K.node q) (K.mark q)));
  }

  pub marked_laws : (Good : P → Type 0) → CheckLaws M K Good → PacketLaws M (marked M K) (Held Good)
  unfolding hop
  marked_laws Good C = record {
    good_hop = λ q d g. record {
      good = C.good_put q _ _ g.good;
      source = rw (J.source_put q (M.next (K.node q) d) (hop_mark q d)) g.source;
      route = rw (J.route_put q (M.next (K.node q) d) (hop_mark q d)) g.route;
      mark = rw (J.mark_put q (M.next (K.node q) d) (hop_mark q d), J.route_put q (M.next (K.node q) d) (hop_mark q d))
          (settle_within M.target (K.route q) _ _ (settle_within M.target (K.route q) (K.node q) (K.mark q) g.mark));
    };
    hops = marked_hops;
    good_check = λ q g at i. C.passes q g.good (record { source = g.source; node = at; route = g.route; mark = g.mark });
  }

-- A hop leaves what 14 leaves.
module _ {Leg P : Type 0} (M : Machine Leg) (L : Laws M) (K : Marks Leg P) (J : MarkLaws K) where
  pub inside_drop : (m : ℕ) (ls : List Leg) → Inside M ls → Inside M (drop m ls)
  inside_drop zero ls h = h
  inside_drop (suc m) [] h = tt
  inside_drop (suc m) (l ∷ ls) h = inside_drop m ls h.1

  inside_next : (n d : ℕ) (ls : List Leg) → n < M.size → Inside M ls → allows M n ls d ≡ true → M.next n d < M.size
  unfolding allows
  inside_next n d [] at h a = absurd (false≢true a)
  inside_next n d (l ∷ ls) at h a = L.inside l n d at h.0 a

  pub formed_hop : (q : P) (d : ℕ) → Formed M K q → may_go M (marked M K) q d ≡ true → Formed M K (hop M K q d)
  unfolding hop
  formed_hop q d f a =
      let r = K.route q in
      let n = K.node q in
      let judged = dropped_keeps M.target n (Inside M) (λ l ls _ i. i.1) (drop (K.mark q) r) (inside_drop (K.mark q) r f.route) in
      record {
        source = rw (J.source_put q (M.next n d) _) f.source;
        node = rw (J.node_put q (M.next n d) _) (inside_next n d _ f.node judged a);
        route = rw (J.route_put q (M.next n d) _) f.route;
        mark = rw (J.mark_put q (M.next n d) _, J.route_put q (M.next n d) _) (settle_within M.target r _ _ (settle_within M.target r n (K.mark q) f.mark));
      }
