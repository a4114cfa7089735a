-- A choice with an empty leg, or whose via is an end or repeated, comes after one without it, which is clear too.
use Prim.Native.Nat.{ℕ, ◌+◌, ◌<◌, ◌≤◌}
use native.Mathlib.Omega.{arith}
use mathlib.Core.Path.{◌≡◌, refl, sym, ap, ◌∙◌}
use mathlib.Core.Logic.{◌⊎◌, inl, inr, ⊎_elim}
use mathlib.Core.Bool.{Bool, true}
use mathlib.Core.List.{[], ◌∷◌}
use lib.ListN.{length}
use lib.Dec.{eqb}
use borrow.Author.Tests.{eqb-true, eqb-false}
use Rattle.theory.specs.Machine.{end_by, sum_by}
use Rattle.theory.specs.Clear.{clear_by}
use Rattle.theory.proofs.Bools.{and_true}
use Rattle.theory.proofs.Cases.{test}
use Rattle.theory.proofs.Choice.{lex_less, lex_least}
use Rattle.machine.specs.declared.leg.Leg.{Leg}
use Rattle.machine.specs.declared.leg.Mode.{Mode}
use Rattle.machine.specs.declared.leg.Mode.TheVariants.{Adaptive, Deterministic}
use Rattle.machine.specs.Torus.{leg}
use Rattle.choice.specs.Choice.{Choice, targets_of, vias_of, modes_of, dets_of, end_from, length_from, key_of, before, Below, Misses, Different, Admits}
use Rattle.choice.specs.Further.{clear_choice}
use Rattle.choice.proofs.Lists.{vias_legs, below_vias}
use Rattle.choice.proofs.Keys.{fewer_before}
use Rattle.choice.proofs.Listed.{direct_admits}

module _ (far : ℕ → ℕ → ℕ) (clear : Leg → ℕ → Bool) (n : ℕ) where
  -- Clear legs from p to D that come to no node twice.
  record Straight (p D : ℕ) (c : Choice) : Type 0 where
    ends : end_from p c ≡ D
    inside : Below n (targets_of c)
    apart : Different (p ∷ targets_of c)
    passes : clear_choice clear p c ≡ true

  straight_on : (p D : ℕ) (l : Leg) (ls : Choice) → Straight p D (l ∷ ls) → Straight l.target D ls
  unfolding end_by targets_of clear_by
  straight_on p D l ls s = record { ends = s.ends; inside = s.inside.1; apart = s.apart.1; passes = (and_true (clear l p) (clear_choice clear l.target ls) s.passes).1 }

  -- Such legs from S, no longer than the legs c from p.
  record Cut (S p D : ℕ) (c : Choice) : Type 0 where
    legs : Choice
    straight : Straight S D legs
    long : length_from far S legs ≤ length_from far p c
    dets : dets_of legs ≤ dets_of c
    count : length legs ≤ length c

  cut_here : (S p D : ℕ) (c : Choice) → S ≡ p → Straight p D c → Cut S p D c
  cut_here S p D c e s = rw e (record { legs = c; straight = s; long = omega arith; dets = omega arith; count = omega arith })

  cut_on : (S p D : ℕ) (l : Leg) (ls : Choice) → Cut S l.target D ls → Cut S p D (l ∷ ls)
  unfolding sum_by dets_of
  cut_on S p D l ls k = record { legs = k.legs; straight = k.straight; long = omega (arith, k.long); dets = omega (arith, k.dets); count = omega (arith, k.count) }

  -- Either S is none of the places, or the legs from there on do.
  cut : (S p D : ℕ) (c : Choice) → Straight p D c → Misses S (p ∷ targets_of c) ⊎ Cut S p D c
  unfolding targets_of
  cut S p D [] s = test (eqb S p) (λ t. inr (cut_here S p D [] (eqb-true S p t) s)) (λ t. inl (eqb-false S p t, tt))
  cut S p D (l ∷ ls) s =
      test (eqb S p)
      (λ t. inr (cut_here S p D (l ∷ ls) (eqb-true S p t) s))
      (λ t. ⊎_elim (λ m. inl (eqb-false S p t, m)) (λ k. inr (cut_on S p D l ls k)) (cut S l.target D ls (straight_on p D l ls s)))

  -- The legs c from p to D, or fewer that come to no node twice, no longer and with no more deterministic ones.
  record Tidy (p D : ℕ) (c : Choice) : Type 0 where
    legs : Choice
    straight : Straight p D legs
    long : length_from far p legs ≤ length_from far p c
    dets : dets_of legs ≤ dets_of c
    fewer : (legs ≡ c) ⊎ (length legs < length c)

  no_more : (p D : ℕ) (c : Choice) → (t : Tidy p D c) → length t.legs ≤ length c
  no_more p D c t = ⊎_elim (λ e. let q : length t.legs ≡ length c = ap length e in omega arith) (λ g. omega arith) t.fewer

  tidy_on : (p D : ℕ) (l : Leg) (ls : Choice) → l.target < n → clear l p ≡ true → Tidy l.target D ls → Tidy p D (l ∷ ls)
  unfolding end_by targets_of clear_by sum_by dets_of
  tidy_on p D l ls b k r =
      let s = r.straight in
      ⊎_elim
      (λ m. record {
        legs = l ∷ r.legs;
        straight = record { ends = s.ends; inside = (b, s.inside); apart = (m, s.apart); passes = rw (k, s.passes) };
        long = omega (arith, r.long);
        dets = omega (arith, r.dets);
        fewer = ⊎_elim (λ e. inl (ap (λ x. l ∷ x) e)) (λ g. inr (omega arith)) r.fewer;
      })
      (λ t. record {
        legs = t.legs;
        straight = t.straight;
        long = omega (arith, r.long, t.long);
        dets = omega (arith, r.dets, t.dets);
        fewer = inr (omega (arith, t.count, no_more l.target D ls r));
      })
      (cut p l.target D r.legs s)

  tidy : (p D : ℕ) (c : Choice) → end_from p c ≡ D → Below n (targets_of c) → clear_choice clear p c ≡ true → Tidy p D c
  unfolding end_by targets_of clear_by sum_by dets_of
  tidy p D [] e b k = record { legs = []; straight = record { ends = e; inside = tt; apart = (tt, tt); passes = refl }; long = omega arith; dets = omega arith; fewer = inl refl }
  tidy p D (l ∷ ls) e b k =
      let both = and_true (clear l p) (clear_choice clear l.target ls) k in
      tidy_on p D l ls b.0 both.0 (tidy l.target D ls e b.1 both.1)

  -- Clear legs from S to D by at most k nodes, ends and repeated ones among them or not.
  pub record Loose (k S D : ℕ) (c : Choice) : Type 0 where
    pub ends : end_from S c ≡ D
    pub some : 1 ≤ length c
    pub few : length (vias_of c) ≤ k
    pub inside : Below n (targets_of c)
    pub passes : clear_choice clear S c ≡ true

  -- An admitted clear choice that is these legs or comes before them.
  pub record Sooner (k S D : ℕ) (c : Choice) : Type 0 where
    pub legs : Choice
    pub admitted : Admits k n S D legs
    pub passes : clear_choice clear S legs ≡ true
    pub sooner : (legs ≡ c) ⊎ (before far S legs c ≡ true)

  some_leg : (S D : ℕ) (c : Choice) → (S ≡ D → ⊥) → end_from S c ≡ D → 1 ≤ length c
  unfolding end_by
  some_leg S D [] ne e = absurd (ne e)
  some_leg S D (l ∷ ls) ne e = omega arith

  -- No leg at all is empty from S: the source is at no length from itself, and an empty leg is clear.
  module _ (S : ℕ) (still : far S S ≡ 0) (empty : clear (leg S Adaptive) S ≡ true) where
    self_one : (t : ℕ) (m : Mode) → t ≡ S → (leg S Adaptive ∷ [] ≡ leg t m ∷ []) ⊎ (before far S (leg S Adaptive ∷ []) (leg t m ∷ []) ≡ true)
    unfolding key_of sum_by dets_of vias_of targets_of modes_of
    self_one t Adaptive e = inl (rw e refl)
    self_one t Deterministic e = inr (lex_least (far S S + 0) (far S t + 0) _ _ (omega arith) (λ _. lex_less 0 1 _ _ (omega arith)))

    self_first : (c : Choice) → 1 ≤ length c → end_from S c ≡ S → (leg S Adaptive ∷ [] ≡ c) ⊎ (before far S (leg S Adaptive ∷ []) c ≡ true)
    unfolding end_by sum_by dets_of vias_of
    self_first [] h e = absurd (omega arith)
    self_first (l ∷ []) h e = self_one l.target l.mode e
    self_first (l ∷ m ∷ ls) h e = inr (fewer_before far S (leg S Adaptive ∷ []) (l ∷ m ∷ ls) (omega arith) (omega arith) (omega arith))

    -- Of such legs there is always an admitted clear choice that is no later.
    pub admitted_first : (k D : ℕ) (c : Choice) → Loose k S D c → Sooner k S D c
    unfolding clear_by
    admitted_first k D c o = test (eqb S D)
        (λ t.
        let e = eqb-true S D t in
        record {
          legs = leg S Adaptive ∷ [];
          admitted = let a = direct_admits k n S S in rw (← e) a;
          passes = rw empty;
          sooner = self_first c o.some (o.ends ∙ sym e);
        })
        (λ t.
        let ne = eqb-false S D t in
        let r = tidy S D c o.ends o.inside o.passes in
        let s = r.straight in
        let some = some_leg S D r.legs ne s.ends in
        let few = o.few in
        let one = vias_legs r.legs some in
        let two = vias_legs c o.some in
        let most = no_more S D c r in
        record {
          legs = r.legs;
          admitted = record { ends = s.ends; few = omega arith; inside = below_vias n r.legs s.inside; apart = λ _. s.apart; self = λ e. absurd (ne e) };
          passes = s.passes;
          sooner = ⊎_elim inl (λ g. inr (fewer_before far S r.legs c r.long r.dets (omega arith))) r.fewer;
        })
