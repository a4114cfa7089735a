-- Two plans of one machine, where all that is sound under the second is sound under the first: what becomes of a planned route.
use Prim.Native.Nat.{ℕ, zero, suc}
use mathlib.Core.Path.{◌≡◌, refl}
use mathlib.Core.Bool.{Bool, true, and-eq-true_iff}
use mathlib.Core.List.{List, [], ◌∷◌}
use Rattle.theory.specs.Machine.{Machine}
use Rattle.theory.specs.Clear.{clear_by, clear_in, clear, clear_legs}
use Rattle.theory.specs.Choice.{Order}
use Rattle.theory.specs.Plan.{planned, Grown}
use Rattle.theory.proofs.Cases.{test}
use Rattle.theory.proofs.Clear.{every_true, true_every}
use Rattle.theory.proofs.Choice.{fewer_is}

module _ {Leg : Type 0} (M : Machine Leg) (sound₁ sound₂ : ℕ → ℕ → Bool) (less : (p d : ℕ) → sound₂ p d ≡ true → sound₁ p d ≡ true) where
  clear_in_less : (n : ℕ) (l : Leg) (p : ℕ) → clear_in M sound₂ n l p ≡ true → clear_in M sound₁ n l p ≡ true
  unfolding clear_in
  clear_in_less zero l p h = refl
  clear_in_less (suc n) l p h =
      true_every M.ways _ λ d lt. test (M.allowed l p d)
      (λ a.
      let both = (and-eq-true_iff (sound₂ p d) _).0 (rw a at (every_true M.ways _ h d lt)) in
      rw a ((and-eq-true_iff (sound₁ p d) _).1 (less p d both.0, clear_in_less n l (M.next p d) both.1)))
      (λ a. rw a)

  clear_legs_less : (p : ℕ) (ls : List Leg) → clear_legs M sound₂ p ls ≡ true → clear_legs M sound₁ p ls ≡ true
  unfolding clear_by clear
  clear_legs_less p [] h = refl
  clear_legs_less p (l ∷ ls) h =
      let both = (and-eq-true_iff (clear M sound₂ l p) _).0 h in
      (and-eq-true_iff (clear M sound₁ l p) _).1 (clear_in_less _ l p both.0, clear_legs_less (M.target l) ls both.1)

  pub grown_is : (before : List Leg → List Leg → Bool) → Order before → (source : ℕ) (cs : List (List Leg)) → Grown M sound₁ sound₂ before source cs
  unfolding planned
  grown_is before O source cs =
      let f = fewer_is before O _ (clear_legs M sound₂ source) (clear_legs_less source) cs in
      record { refused = f.refused; not_earlier = f.not_earlier; kept = f.kept }
