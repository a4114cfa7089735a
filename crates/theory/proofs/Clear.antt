-- The test `clear` passes exactly on clear legs.
use Prim.Native.Nat.{ℕ, zero, suc, ◌<◌}
use native.Mathlib.Omega.{arith}
use mathlib.Core.Path.{◌≡◌, refl, sym, ◌∙◌}
use mathlib.Core.Logic.{◌↔◌}
use mathlib.Core.Bool.{Bool, true, and-eq-true_iff}
use mathlib.Core.List.{List, [], ◌∷◌}
use lib.Dec.{eqb}
use borrow.Author.Tests.{eqb-true, eqb-false}
use Rattle.theory.specs.Machine.{Machine, Laws, Inside}
use Rattle.theory.specs.Clear.{Allows, Sound, Clear, ClearLegs, every, clear_by, clear_in, clear, clear_legs}
use Rattle.theory.proofs.Bools.{same_test}
use Rattle.theory.proofs.Cases.{test}

pub every_true : (n : ℕ) (f : ℕ → Bool) → every n f ≡ true → (d : ℕ) → d < n → f d ≡ true
unfolding every
every_true zero f h d lt = absurd (omega arith)
every_true (suc n) f h d lt =
    let both = (and-eq-true_iff (f n) (every n f)).0 h in
    test (eqb d n)
    (λ e. rw (eqb-true d n e) both.0)
    (λ e. every_true n f both.1 d (omega (arith, eqb-false d n e)))

pub true_every : (n : ℕ) (f : ℕ → Bool) → ((d : ℕ) → d < n → f d ≡ true) → every n f ≡ true
unfolding every
true_every zero f h = refl
true_every (suc n) f h = (and-eq-true_iff (f n) (every n f)).1 (h n (omega arith), true_every n f (λ d lt. h d (omega arith)))

module _ {Leg : Type 0} (M : Machine Leg) (L : Laws M) (sound : ℕ → ℕ → Bool) where
  -- A clear leg one hop on.
  pub clear_on : (l : Leg) (p d : ℕ) → M.allowed l p d ≡ true → Clear M sound l p → (sound p d ≡ true) × Clear M sound l (M.next p d)
  clear_on l p d a c = ((c (d ∷ []) (a, tt)).0, λ ds w. (c (d ∷ ds) (a, w)).1)

  -- An empty leg is clear.
  pub empty_clear : (l : Leg) (p : ℕ) → p < M.size → M.target l ≡ p → Clear M sound l p
  empty_clear l p at e [] w = tt
  empty_clear l p at e (d ∷ ds) w =
      absurd (omega (arith, rw e at (L.nearer l p d at (rw e at) w.0), L.there p at))

  module _ (l : Leg) (end : M.target l < M.size) where
    passes_clear : (n p : ℕ) → p < M.size → n ≡ M.hops p (M.target l) → clear_in M sound n l p ≡ true → Clear M sound l p
    unfolding clear_in
    passes_clear n p at e h [] w = tt
    passes_clear zero p at e h (d ∷ ds) w = absurd (omega (arith, L.nearer l p d at end w.0))
    passes_clear (suc n) p at e h (d ∷ ds) w =
        let near = L.nearer l p d at end w.0 in
        let both = (and-eq-true_iff (sound p d) _).0 (rw w.0 at (every_true M.ways _ h d (L.named l p d at end w.0))) in
        (both.0, passes_clear n (M.next p d) (L.inside l p d at end w.0) (omega arith) both.1 ds w.1)

    clear_passes : (n p : ℕ) → p < M.size → n ≡ M.hops p (M.target l) → Clear M sound l p → clear_in M sound n l p ≡ true
    unfolding clear_in
    clear_passes zero p at e c = refl
    clear_passes (suc n) p at e c =
        true_every M.ways _ λ d lt. test (M.allowed l p d)
        (λ a.
        let near = L.nearer l p d at end a in
        let on = clear_on l p d a c in
        rw a ((and-eq-true_iff (sound p d) _).1 (on.0, clear_passes n (M.next p d) (L.inside l p d at end a) (omega arith) on.1)))
        (λ a. rw a)

    pub clear_iff : (p : ℕ) → p < M.size → (clear M sound l p ≡ true) ↔ Clear M sound l p
    unfolding clear
    clear_iff p at = (passes_clear _ p at refl, clear_passes _ p at refl)

  -- A choice passes the test exactly if all its legs are clear.
  pub clear_legs_iff : (p : ℕ) (ls : List Leg) → p < M.size → Inside M ls → (clear_legs M sound p ls ≡ true) ↔ ClearLegs M sound p ls
  unfolding clear_by
  clear_legs_iff p [] at i = (λ _. tt, λ _. refl)
  clear_legs_iff p (l ∷ ls) at i =
      let both = and-eq-true_iff (clear M sound l p) (clear_legs M sound (M.target l) ls) in
      let one = clear_iff l i.0 p at in
      let rest = clear_legs_iff (M.target l) ls i.0 i.1 in
      (λ h. (one.0 (both.0 h).0, rest.0 (both.0 h).1), λ c. both.1 (one.1 c.0, rest.1 c.1))

-- Only the links that a leg's walks cross matter.
module _ {Leg : Type 0} (M : Machine Leg) (L : Laws M) (sound₁ sound₂ : ℕ → ℕ → Bool) (same : (l : Leg) (p d : ℕ) → p < M.size → M.target l < M.size → M.allowed l p d ≡ true → sound₁ p d ≡ sound₂ p d) where
  sound_same : (l : Leg) (p : ℕ) (ds : List ℕ) → p < M.size → M.target l < M.size → Allows M l p ds → Sound M sound₁ p ds → Sound M sound₂ p ds
  sound_same l p [] at end w h = tt
  sound_same l p (d ∷ ds) at end w h = (sym (same l p d at end w.0) ∙ h.0, sound_same l (M.next p d) ds (L.inside l p d at end w.0) end w.1 h.1)

module _ {Leg : Type 0} (M : Machine Leg) (L : Laws M) (sound₁ sound₂ : ℕ → ℕ → Bool) (same : (l : Leg) (p d : ℕ) → p < M.size → M.target l < M.size → M.allowed l p d ≡ true → sound₁ p d ≡ sound₂ p d) where
  pub clear_same : (l : Leg) (p : ℕ) → p < M.size → M.target l < M.size → clear M sound₁ l p ≡ clear M sound₂ l p
  clear_same l p at end =
      let one = clear_iff M L sound₁ l end p at in
      let two = clear_iff M L sound₂ l end p at in
      same_test _ _
      (λ h. two.1 (λ ds w. sound_same M L sound₁ sound₂ same l p ds at end w (one.0 h ds w)))
      (λ h. one.1 (λ ds w. sound_same M L sound₂ sound₁ (λ l p d at end a. sym (same l p d at end a)) l p ds at end w (two.0 h ds w)))
