-- Laws of `dropped`: what a drop keeps, and that nothing is left to drop.
use Prim.Native.Nat.{ℕ}
use mathlib.Core.Path.{◌≡◌, refl}
use mathlib.Core.List.{List, [], ◌∷◌}
use lib.Dec.{eqb}
use borrow.Author.Tests.{eqb-true, eqb-false, ne_eqb}
use Rattle.theory.specs.Machine.{dropped}
use Rattle.theory.proofs.Cases.{test}

module _ {Leg : Type 0} (target : Leg → ℕ) (p : ℕ) where
  -- What holds of a route, and of what is left when a leg to p is dropped, holds after the drops.
  pub dropped_keeps :
      (Q : List Leg → Type 0) →
      ((l : Leg) (ls : List Leg) → target l ≡ p → Q (l ∷ ls) → Q ls) →
      (ls : List Leg) →
      Q ls →
      Q (dropped target p ls)
  unfolding dropped
  dropped_keeps Q drop [] h = h
  dropped_keeps Q drop (l ∷ ls) h =
      test (eqb (target l) p)
      (λ e. rw e (dropped_keeps Q drop ls (drop l ls (eqb-true _ _ e) h)))
      (λ e. rw e h)

  -- The front leg's target is not p.
  abbrev pub Settled : List Leg → Type 0
  Settled [] = Unit {0}
  Settled (l ∷ ls) = target l ≡ p → ⊥

  pub dropped_settled : (ls : List Leg) → Settled (dropped target p ls)
  unfolding dropped
  dropped_settled [] = tt
  dropped_settled (l ∷ ls) = test (eqb (target l) p) (λ e. rw e (dropped_settled ls)) (λ e. rw e (eqb-false _ _ e))

  pub settled_dropped : (ls : List Leg) → Settled ls → dropped target p ls ≡ ls
  unfolding dropped
  settled_dropped [] h = refl
  settled_dropped (l ∷ ls) h = rw (ne_eqb (target l) p h)
