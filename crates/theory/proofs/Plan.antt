-- All that is claimed of a planned route holds.
use Prim.Native.Nat.{ℕ, ◌<◌}
use mathlib.Core.Path.{◌≡◌, refl, sym, ◌∙◌}
use mathlib.Core.Logic.{◌↔◌}
use mathlib.Core.Bool.{Bool, true, true≢false}
use mathlib.Core.List.{List, Memᴰ}
use mathlib.Core.Option.{Option, none, some}
use Rattle.theory.specs.Machine.{Machine, Laws, Inside, end_of}
use Rattle.theory.specs.Clear.{ClearLegs, clear_legs}
use Rattle.theory.specs.Marks.{Marks, MarkLaws, CheckLaws, New}
use Rattle.theory.specs.Back.{Backward, BackLaws}
use Rattle.theory.specs.Choice.{Order, Best}
use Rattle.theory.specs.Plan.{planned, Routed, Planned}
use Rattle.theory.proofs.Cases.{test}
use Rattle.theory.proofs.Clear.{clear_legs_iff}
use Rattle.theory.proofs.BackClaim.{marked_claim, back_claim}
use Rattle.theory.proofs.Choice.{best_is}

-- The answer, read as an option: a refusal is none, a route some.
pub record ReadAs {C : Type 0} (o : Option C) (Refuses : Type 0) (Gives : C → Type 0) : Type 0 where
  pub refuses : o ≡ none → Refuses
  pub none : Refuses → o ≡ none
  pub gives : (c : C) → o ≡ some c → Gives c
  pub some : (c : C) → Gives c → o ≡ some c

module _
    {Leg P : Type 0} (M : Machine Leg) (L : Laws M) (B : Backward Leg) (H : BackLaws M B) (K : Marks Leg P) (J : MarkLaws K) (Good : P → Type 0) (C : CheckLaws M K Good) (sound : ℕ → ℕ → Bool)
    (before : List Leg → List Leg → Bool) (O : Order before) (Admits : List Leg → Type 0) (cs : List (List Leg)) (lists : (c : List Leg) → Admits c ↔ Memᴰ c cs)
    (source dest : ℕ) (at : source < M.size) (inside : (c : List Leg) → Admits c → Inside M c) (ends : (c : List Leg) → Admits c → end_of M source c ≡ dest)
    (new : List Leg → P) (starts : (c : List Leg) → Admits c → New M K Good source c (new c)) where
  passes : (c : List Leg) → Admits c → (clear_legs M sound source c ≡ true) ↔ ClearLegs M sound source c
  passes c a = clear_legs_iff M L sound source c at (inside c a)

  module _ (o : Option (List Leg)) (b : Best before (clear_legs M sound source) cs o) where
    none_clear : (o ≡ none) ↔ ((c : List Leg) → Admits c → ClearLegs M sound source c → ⊥)
    none_clear = (
      λ n c a h. true≢false (sym ((passes c a).1 h) ∙ b.refused.0 n c ((lists c).0 a)),
      λ none. b.refused.1 (λ c m. let a = (lists c).1 m in test _ (λ t. absurd (none c a ((passes c a).0 t))) (λ f. f)),
    )

    some_routed : (c : List Leg) → o ≡ some c → Routed M B K Good sound before Admits source dest c (new c)
    some_routed c e =
        let is : Admits c = (lists c).1 (b.chosen c e).listed in
        let clear : ClearLegs M sound source c = (passes c is).0 (b.chosen c e).passes in
        record {
          admitted = is;
          clear = clear;
          first = λ x a h. (b.chosen c e).least x ((lists x).0 a) ((passes x a).1 h);
          ends = ends c is;
          starts = starts c is;
          runs = marked_claim M L B H K J Good C sound source c at (inside c is) clear;
          backs = back_claim M L B H K J Good C sound source c at (inside c is) clear;
        }

    -- Of any answer that says the first of the choices that pass the test.
    pub best_planned : (Refuses : Type 0) (Gives : List Leg → Type 0) → ReadAs o Refuses Gives → Planned M B K Good sound before Admits source dest Refuses Gives new
    best_planned Refuses Gives t = record {
      refused = (λ r. none_clear.0 (t.none r), λ n. t.refuses (none_clear.1 n));
      otherwise = λ not. given o refl not;
      routed = λ c g. some_routed c (t.some c g);
    }
      where
        given : (x : Option (List Leg)) → o ≡ x → (Refuses → ⊥) → (c : List Leg) × Gives c
        given none e not = absurd (not (t.refuses e))
        given (some c) e not = (c, t.gives c e)

  pub planned_is : (Refuses : Type 0) (Gives : List Leg → Type 0) → ReadAs (planned M sound before source cs) Refuses Gives → Planned M B K Good sound before Admits source dest Refuses Gives new
  unfolding planned
  planned_is = best_planned _ (best_is before O _ cs)
