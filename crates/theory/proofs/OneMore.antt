-- One more hop at the end of a walk.
use Prim.Native.Nat.{ℕ}
use mathlib.Core.Path.{◌≡◌, refl}
use mathlib.Core.Bool.{Bool, true}
use mathlib.Core.List.{List, [], ◌∷◌, ◌++◌}
use Rattle.theory.specs.Machine.{Machine}
use Rattle.theory.specs.Clear.{Allows, Sound, lead}

module _ {Leg : Type 0} (M : Machine Leg) (d : ℕ) where
  pub lead_one : (p : ℕ) (ds : List ℕ) → lead M p (ds ++ (d ∷ [])) ≡ M.next (lead M p ds) d
  unfolding lead
  lead_one p [] = refl
  lead_one p (e ∷ ds) = lead_one (M.next p e) ds

  pub sound_one : (sound : ℕ → ℕ → Bool) (p : ℕ) (ds : List ℕ) → Sound M sound p ds → sound (lead M p ds) d ≡ true → Sound M sound p (ds ++ (d ∷ []))
  unfolding lead
  sound_one sound p [] s h = (h, tt)
  sound_one sound p (e ∷ ds) s h = (s.0, sound_one sound (M.next p e) ds s.1 h)

  pub allows_one : (l : Leg) (p : ℕ) (ds : List ℕ) → Allows M l p ds → M.allowed l (lead M p ds) d ≡ true → Allows M l p (ds ++ (d ∷ []))
  unfolding lead
  allows_one l p [] w h = (h, tt)
  allows_one l p (e ∷ ds) w h = (w.0, allows_one l (M.next p e) ds w.1 h)
