-- No choice is shorter than the pair's own distance, and which have just that length; a clear direct adaptive leg is first; when no further via helps;
-- when a clear direct deterministic leg is first. Each for any number of vias.
use Prim.Native.Nat.{ℕ, suc, ◌+◌, ◌<◌, ◌≤◌}
use native.Mathlib.Omega.{arith}
use mathlib.Core.Path.{◌≡◌, refl, ap}
use mathlib.Core.Logic.{◌↔◌}
use mathlib.Core.Bool.{Bool, true}
use mathlib.Core.List.{[], ◌∷◌}
use mathlib.Core.Option.{some}
use lib.ListN.{length}
use Rattle.theory.specs.Machine.{end_by, sum_by}
use Rattle.theory.specs.Clear.{clear_by}
use Rattle.theory.proofs.Cases.{by_le}
use Rattle.theory.proofs.Choice.{best_is, best_first, lex_less, lex_least}
use Rattle.machine.specs.declared.leg.Leg.{Leg}
use Rattle.machine.specs.declared.leg.Mode.{Mode}
use Rattle.machine.specs.declared.leg.Mode.TheVariants.{Adaptive, Deterministic}
use Rattle.machine.specs.Torus.{leg}
use Rattle.choice.specs.Choice.{Choice, targets_of, vias_of, det, modes_of, dets_of, end_from, length_from, key_of, before, Below, Admits, choices_by}
use Rattle.choice.specs.Further.{clear_choice, first_by}
use Rattle.choice.specs.Search.{Between}
use Rattle.choice.proofs.Lists.{below_targets}
use Rattle.choice.proofs.Keys.{before_order, fewer_before}
use Rattle.choice.proofs.Listed.{admits_lists, direct_admits, lists_admits}

module _ (far : ℕ → ℕ → ℕ) (n : ℕ) (still : (p : ℕ) → far p p ≡ 0) (triangle : (p v t : ℕ) → p < n → v < n → t < n → far p t ≤ far p v + far v t) where
  pub no_shorter : (D p : ℕ) (c : Choice) → D < n → p < n → Below n (targets_of c) → end_from p c ≡ D → far p D ≤ length_from far p c
  unfolding targets_of end_by sum_by
  no_shorter D p [] h_d hp b e = let z = still D in rw e (omega arith)
  no_shorter D p (l ∷ ls) h_d hp b e =
      let rest = no_shorter D l.target ls h_d b.0 b.1 e in
      let t = triangle p l.target D hp b.0 h_d in
      omega arith

  shortest_between : (D p : ℕ) (c : Choice) → D < n → p < n → Below n (targets_of c) → end_from p c ≡ D → length_from far p c ≡ far p D → Between far D p c
  unfolding targets_of end_by sum_by
  shortest_between D p [] h_d hp b e h = tt
  shortest_between D p (l ∷ ls) h_d hp b e h =
      let rest = no_shorter D l.target ls h_d b.0 b.1 e in
      let t = triangle p l.target D hp b.0 h_d in
      (omega arith, shortest_between D l.target ls h_d b.0 b.1 e (omega arith))

  between_shortest : (D p : ℕ) (c : Choice) → end_from p c ≡ D → Between far D p c → length_from far p c ≡ far p D
  unfolding end_by sum_by
  between_shortest D p [] e h = let z = still D in rw e (omega arith)
  between_shortest D p (l ∷ ls) e h =
      let rest = between_shortest D l.target ls e h.1 in
      let one = h.0 in
      omega arith

  -- A choice has the pair's own distance as length exactly if each via lies between the one before and D.
  pub shortest_iff : (D p : ℕ) (c : Choice) → D < n → p < n → Below n (targets_of c) → end_from p c ≡ D → (length_from far p c ≡ far p D) ↔ Between far D p c
  shortest_iff D p c h_d hp b e = (shortest_between D p c h_d hp b e, between_shortest D p c e)

  pub admits_long : (k S D : ℕ) → S < n → D < n → (c : Choice) → Admits k n S D c → far S D ≤ length_from far S c
  admits_long k S D h_s h_d c a = no_shorter D S c h_d h_s (below_targets n S c (rw a.ends h_d) a.inside) a.ends

  module _ (clear : Leg → ℕ → Bool) (k S D : ℕ) (h_s : S < n) (h_d : D < n) where
    direct_before : (c : Choice) → end_from S c ≡ D → (S ≡ D → c ≡ leg D Adaptive ∷ []) → far S D ≤ length_from far S c → (c ≡ leg D Adaptive ∷ [] → ⊥) → before far S (leg D Adaptive ∷ []) c ≡ true
    unfolding key_of sum_by dets_of vias_of targets_of modes_of end_by
    direct_before [] e self le ne = absurd (ne (self e))
    direct_before (l ∷ []) e self le ne = one l.target l.mode e le ne
      where
        one : (t : ℕ) (m : Mode) → t ≡ D → far S D ≤ far S t + 0 → (leg t m ∷ [] ≡ leg D Adaptive ∷ [] → ⊥) → before far S (leg D Adaptive ∷ []) (leg t m ∷ []) ≡ true
        one t Adaptive e le ne = absurd (ne (rw e refl))
        one t Deterministic e le ne = lex_least (far S D + 0) (far S t + 0) _ _ (omega arith) (λ _. lex_less 0 1 _ _ (omega arith))
    direct_before (l ∷ m ∷ ls) e self le ne = fewer_before far S (leg D Adaptive ∷ []) (l ∷ m ∷ ls) (omega arith) (omega arith) (omega arith)

    -- No choice comes before a clear direct adaptive leg.
    pub direct_first : clear (leg D Adaptive) S ≡ true → first_by far clear k n S D ≡ some (leg D Adaptive ∷ [])
    unfolding first_by clear_by
    direct_first h =
        best_first (before far S) (before_order far S) (clear_choice clear S) (choices_by k n S D) (leg D Adaptive ∷ []) (record {
          listed = admits_lists k n S D (leg D Adaptive ∷ []) (direct_admits k n S D);
          passes = rw h;
          least = λ e m _ ne. let b = lists_admits k n S D e m in direct_before e b.ends b.self (admits_long k S D h_s h_d e b) ne;
        })

    -- Where the first with at most k vias is as short as can be and adaptive throughout, no further via betters it.
    pub enough : (c : Choice) → first_by far clear k n S D ≡ some c → length_from far S c ≡ far S D → dets_of c ≡ 0 → first_by far clear (suc k) n S D ≡ some c
    unfolding first_by
    enough c e short adaptive =
        let f = (best_is (before far S) (before_order far S) (clear_choice clear S) (choices_by k n S D)).chosen c e in
        let a = lists_admits k n S D c f.listed in
        let few = a.few in
        best_first (before far S) (before_order far S) (clear_choice clear S) (choices_by (suc k) n S D) c (record {
          listed = admits_lists (suc k) n S D c (record { ends = a.ends; few = omega arith; inside = a.inside; apart = a.apart; self = a.self });
          passes = f.passes;
          least = λ g m t ne.
              let b = lists_admits (suc k) n S D g m in
              let long = admits_long (suc k) S D h_s h_d g b in
              by_le (length (vias_of g)) k
              (λ le. f.least g (admits_lists k n S D g (record { ends = b.ends; few = le; inside = b.inside; apart = b.apart; self = b.self })) t ne)
              (λ more. fewer_before far S c g (omega arith) (omega arith) (omega arith));
        })

    deterministic_before :
        (c : Choice) → end_from S c ≡ D → (S ≡ D → ⊥) → far S D ≤ length_from far S c → (length_from far S c ≡ far S D → dets_of c ≡ 0 → ⊥) → (c ≡ leg D Deterministic ∷ [] → ⊥) →
        before far S (leg D Deterministic ∷ []) c ≡ true
    unfolding key_of sum_by dets_of vias_of targets_of modes_of end_by
    deterministic_before [] e other le worse ne = absurd (other e)
    deterministic_before (l ∷ []) e other le worse ne = one l.target l.mode e worse ne
      where
        one : (t : ℕ) (m : Mode) → t ≡ D → (far S t + 0 ≡ far S D → det m + 0 ≡ 0 → ⊥) → (leg t m ∷ [] ≡ leg D Deterministic ∷ [] → ⊥) → before far S (leg D Deterministic ∷ []) (leg t m ∷ []) ≡ true
        one t Adaptive e worse ne = let q : far S t ≡ far S D = ap (far S) e in absurd (worse (omega arith) (omega arith))
        one t Deterministic e worse ne = absurd (ne (rw e refl))
    deterministic_before (l ∷ m ∷ ls) e other le worse ne =
        lex_least (far S D + 0) (length_from far S (l ∷ m ∷ ls)) _ _ (omega arith)
        (λ q. let most : dets_of (l ∷ m ∷ ls) ≡ 0 → ⊥ = worse (omega arith) in
        lex_least 1 (dets_of (l ∷ m ∷ ls)) _ _ (omega (arith, most)) (λ _. lex_less 0 (suc (length (vias_of (m ∷ ls)))) _ _ (omega arith)))

    deterministic_admits : (S ≡ D → ⊥) → Admits k n S D (leg D Deterministic ∷ [])
    unfolding end_by vias_of targets_of
    deterministic_admits ne = record { ends = refl; few = omega arith; inside = tt; apart = λ _. ((ne, tt), (tt, tt)); self = λ e. absurd (ne e) }

    -- Where no clear choice is as short as can be and adaptive throughout, a clear direct deterministic leg is first.
    pub deterministic_first :
        (S ≡ D → ⊥) → clear (leg D Deterministic) S ≡ true →
        ((c : Choice) → Admits k n S D c → clear_choice clear S c ≡ true → length_from far S c ≡ far S D → dets_of c ≡ 0 → ⊥) →
        first_by far clear k n S D ≡ some (leg D Deterministic ∷ [])
    unfolding first_by clear_by
    deterministic_first ne h worse =
        best_first (before far S) (before_order far S) (clear_choice clear S) (choices_by k n S D) (leg D Deterministic ∷ []) (record {
          listed = admits_lists k n S D (leg D Deterministic ∷ []) (deterministic_admits ne);
          passes = rw h;
          least = λ e m t other. let b = lists_admits k n S D e m in deterministic_before e b.ends ne (admits_long k S D h_s h_d e b) (worse e b t) other;
        })
