-- On any machine: the links that the walks of a leg can cross, and a leg is clear exactly if every one of them is sound.
use Prim.Native.Nat.{ℕ, zero, suc, ◌<◌}
use mathlib.Core.Path.{◌≡◌, refl}
use mathlib.Core.Logic.{◌↔◌, ◌⊎◌, ⊎_elim}
use native.Mathlib.Omega.{arith}
use mathlib.Core.Bool.{Bool, true}
use mathlib.Core.List.{List, [], ◌∷◌}
use Rattle.theory.specs.Machine.{Machine, Laws}
use Rattle.theory.specs.Clear.{Allows, lead, Clear}
use Rattle.theory.specs.Back.{Crosses}
use Rattle.theory.proofs.Clear.{clear_on}

-- `can p u d`: some walk of the leg l from p crosses the link that leaves u in direction d. It does so with its first hop, or after it.
pub record Crossings {Leg : Type 0} (M : Machine Leg) (l : Leg) (can : ℕ → ℕ → ℕ → Bool) : Type 0 where
  pub first : (p d : ℕ) → p < M.size → M.allowed l p d ≡ true → can p p d ≡ true
  pub after : (p e u d : ℕ) → p < M.size → u < M.size → M.allowed l p e ≡ true → can (M.next p e) u d ≡ true → can p u d ≡ true
  pub split : (p u d : ℕ) → p < M.size → u < M.size → can p u d ≡ true → ((p ≡ u) × (M.allowed l p d ≡ true)) ⊎ ((e : ℕ) × (M.allowed l p e ≡ true) × (can (M.next p e) u d ≡ true))

module _ {Leg : Type 0} (M : Machine Leg) (L : Laws M) (l : Leg) (end : M.target l < M.size) (can : ℕ → ℕ → ℕ → Bool) (K : Crossings M l can) where
  crossed_walk : (n p u d : ℕ) → p < M.size → u < M.size → M.hops p (M.target l) ≡ n → can p u d ≡ true → Crosses M l p u d
  unfolding lead
  crossed_walk zero p u d at hu e m =
      ⊎_elim
      (λ k. record { walk = []; allowed = tt; leads = k.0; onward = rw k.0 at k.1 })
      (λ k. absurd (omega (arith, L.nearer l p k.0 at end k.1)))
      (K.split p u d at hu m)
  crossed_walk (suc n) p u d at hu e m =
      ⊎_elim
      (λ k. record { walk = []; allowed = tt; leads = k.0; onward = rw k.0 at k.1 })
      (λ k.
      let r = crossed_walk n (M.next p k.0) u d (L.inside l p k.0 at end k.1) hu (omega (arith, L.nearer l p k.0 at end k.1)) k.2 in
      record { walk = k.0 ∷ r.walk; allowed = (k.1, r.allowed); leads = r.leads; onward = r.onward })
      (K.split p u d at hu m)

  walk_crossed : (ds : List ℕ) (p u d : ℕ) → p < M.size → u < M.size → Allows M l p ds → lead M p ds ≡ u → M.allowed l u d ≡ true → can p u d ≡ true
  unfolding lead
  walk_crossed [] p u d at hu w e a = rw (← e) (K.first p d at (rw e a))
  walk_crossed (f ∷ ds) p u d at hu w e a = K.after p f u d at hu w.0 (walk_crossed ds (M.next p f) u d (L.inside l p f at end w.0) hu w.1 e a)

  pub crossings_walk : (p u d : ℕ) → p < M.size → u < M.size → (can p u d ≡ true) ↔ Crosses M l p u d
  crossings_walk p u d at hu = (crossed_walk (M.hops p (M.target l)) p u d at hu refl, λ c. walk_crossed c.walk p u d at hu c.allowed c.leads c.onward)

module _ {Leg : Type 0} (M : Machine Leg) (L : Laws M) (l : Leg) (end : M.target l < M.size) (can : ℕ → ℕ → ℕ → Bool) (K : Crossings M l can) (sound : ℕ → ℕ → Bool) where
  walk_sound : (ds : List ℕ) (p u d : ℕ) → Clear M sound l p → Allows M l p ds → lead M p ds ≡ u → M.allowed l u d ≡ true → sound u d ≡ true
  unfolding lead
  walk_sound [] p u d c w e a = rw (← e) (clear_on M L sound l p d (rw e a) c).0
  walk_sound (f ∷ ds) p u d c w e a = walk_sound ds (M.next p f) u d (clear_on M L sound l p f w.0 c).1 w.1 e a

  sound_clear : (p : ℕ) → p < M.size → ((u d : ℕ) → u < M.size → can p u d ≡ true → sound u d ≡ true) → Clear M sound l p
  sound_clear p at h [] w = tt
  sound_clear p at h (d ∷ ds) w =
      (h p d at (K.first p d at w.0), sound_clear (M.next p d) (L.inside l p d at end w.0) (λ u e hu m. h u e hu (K.after p d u e at hu w.0 m)) ds w.1)

  pub clear_crossings : (p : ℕ) → p < M.size → Clear M sound l p ↔ ((u d : ℕ) → u < M.size → can p u d ≡ true → sound u d ≡ true)
  clear_crossings p at = (λ c u d hu m. let k = (crossings_walk M L l end can K p u d at hu).0 m in walk_sound k.walk p u d c k.allowed k.leads k.onward, sound_clear p at)
