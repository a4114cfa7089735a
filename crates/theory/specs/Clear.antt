-- Clear legs: what the word means, over every walk, and the test that computes it.
use Rattle.std.specs.Prelude.{ℕ, zero, suc, ◌≡◌, Bool, true, cond, ◌&&◌, List, [], ◌∷◌}
use Rattle.theory.specs.Machine.{Machine}

-- The test f passes at every number below n.
unfoldable pub every : ℕ → (ℕ → Bool) → Bool
every zero f = true
every (suc n) f = f n && every n f

-- `clear l p`: the leg l is clear from p. A choice is clear if all its legs are.
unfoldable pub clear_by : {Leg : Type 0} → (Leg → ℕ) → (Leg → ℕ → Bool) → ℕ → List Leg → Bool
clear_by target clear p [] = true
clear_by target clear p (l ∷ ls) = clear l p && clear_by target clear (target l) ls

module _ {Leg : Type 0} (M : Machine Leg) where
  -- A walk is a list of directions. The leg's mode allows each of them where it is taken.
  abbrev pub Allows : Leg → ℕ → List ℕ → Type 0
  Allows l p [] = Unit {0}
  Allows l p (d ∷ ds) = (M.allowed l p d ≡ true) × Allows l (M.next p d) ds

  -- Where a walk from p leads.
  unfoldable pub lead : ℕ → List ℕ → ℕ
  lead p [] = p
  lead p (d ∷ ds) = lead (M.next p d) ds

  -- `sound p d`: the link that leaves p in direction d is not dead.
  module _ (sound : ℕ → ℕ → Bool) where
    -- Every link that a walk from p crosses is sound.
    abbrev pub Sound : ℕ → List ℕ → Type 0
    Sound p [] = Unit {0}
    Sound p (d ∷ ds) = (sound p d ≡ true) × Sound (M.next p d) ds

    -- A leg is clear if no walk that its mode allows crosses a dead link.
    abbrev pub Clear : Leg → ℕ → Type 0
    Clear l p = (ds : List ℕ) → Allows l p ds → Sound p ds

    -- A choice is clear if all its legs are.
    abbrev pub ClearLegs : ℕ → List Leg → Type 0
    ClearLegs p [] = Unit {0}
    ClearLegs p (l ∷ ls) = Clear l p × ClearLegs (M.target l) ls

    -- The test: with n hops left, every allowed direction is sound and leads to where the test passes again.
    unfoldable pub clear_in : ℕ → Leg → ℕ → Bool
    clear_in zero l p = true
    clear_in (suc n) l p = every M.ways (λ d. let rest = clear_in n l (M.next p d) in cond (M.allowed l p d) (sound p d && rest) true)

    unfoldable pub clear : Leg → ℕ → Bool
    clear l p = clear_in (M.hops p (M.target l)) l p

    abbrev pub clear_legs : ℕ → List Leg → Bool
    clear_legs p ls = clear_by M.target clear p ls
