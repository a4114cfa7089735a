-- Of an accepted plan: a leg from another node to a dead one is not clear.
use Prim.Native.Nat.{ℕ, zero, suc, ◌<◌}
use native.Mathlib.Omega.{arith}
use mathlib.Core.Path.{◌≡◌, refl, sym, ap, ◌∙◌}
use mathlib.Core.Bool.{Bool, true, false, not, true≢false}
use mathlib.Core.List.{List}
use lib.Dec.{eqb}
use borrow.Author.Tests.{eqb-true, eqb-false}
use Rattle.theory.specs.Machine.{Machine, Laws}
use Rattle.theory.specs.Clear.{Clear, clear}
use Rattle.theory.proofs.Cases.{test}
use Rattle.theory.proofs.Clear.{clear_iff, clear_on}
use Rattle.machine.specs.declared.leg.Mode.{Mode}
use Rattle.machine.specs.Number.{node_count}
use Rattle.machine.specs.Hop.{neighbour}
use Rattle.machine.specs.Torus.{torus, leg}
use Rattle.machine.proofs.Laws.{useful_link}
use Rattle.machine.proofs.Torus.{torus_laws, allowed_useful}
use Rattle.plan.specs.Layout.{shape_of, faults_of}
use Rattle.plan.specs.Checks.{large, torus_plans, plan_error}
use Rattle.plan.proofs.Plans.{accepted}
use Rattle.dead.specs.Dead.{dead_node}
use Rattle.dead.proofs.Laws.{entering_dead, sound_or_dead}
use Rattle.choice.specs.Pair.{sound_in}

-- A leg whose last hop is never sound.
module _ {Leg : Type 0} (M : Machine Leg) (L : Laws M) (sound : ℕ → ℕ → Bool) (l : Leg) (end : M.target l < M.size)
    (lost : (p d : ℕ) → p < M.size → M.allowed l p d ≡ true → M.next p d ≡ M.target l → sound p d ≡ false) where
  not_clear : (n p : ℕ) → p < M.size → M.hops p (M.target l) ≡ n → (M.target l ≡ p → ⊥) → Clear M sound l p → ⊥
  not_clear zero p at e ne c = ne (L.here p (M.target l) at end e)
  not_clear (suc n) p at e ne c =
      let way = L.onward l p at end ne in
      let d = way.0 in
      let on = clear_on M L sound l p d way.2 c in
      let near = L.nearer l p d at end way.2 in
      test (eqb (M.target l) (M.next p d))
      (λ t. true≢false (sym on.0 ∙ lost p d at way.2 (sym (eqb-true (M.target l) (M.next p d) t))))
      (λ t. not_clear n (M.next p d) (L.inside l p d at end way.2) (omega arith) (eqb-false (M.target l) (M.next p d) t) on.1)

module _ (p : List ℕ) (h : plan_error large p ≡ 0) (S D : ℕ) (h_s : S < node_count (shape_of p)) (h_d : D < node_count (shape_of p)) where
  pub dead_target : dead_node (faults_of p) D ≡ true → (S ≡ D → ⊥) → (m : Mode) → clear (torus (shape_of p)) (sound_in p) (leg D m) S ≡ false
  dead_target dead ne m =
      let s = shape_of p in
      let k = (accepted torus_plans large p h).shape in
      let lost : (n d : ℕ) → n < node_count s → (torus s).allowed (leg D m) n d ≡ true → neighbour s n d ≡ D → sound_in p n d ≡ false =
      λ n d at a e.
      let l = useful_link s n D d (allowed_useful s k n D at h_d m d a) in
      sound_or_dead s (faults_of p) n d l ∙ ap not (entering_dead s (faults_of p) n d l (ap (dead_node (faults_of p)) e ∙ dead)) in
      test (clear (torus s) (sound_in p) (leg D m) S)
      (λ y.
      let c = (clear_iff (torus s) (torus_laws s k) (sound_in p) (leg D m) h_d S h_s).0 y in
      absurd (not_clear (torus s) (torus_laws s k) (sound_in p) (leg D m) h_d lost _ S h_s refl (λ e. ne (sym e)) c))
      (λ y. y)
