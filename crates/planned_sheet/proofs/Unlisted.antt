-- Which destinations are listed: those to which the direct adaptive leg is not clear.
use Prim.Native.Nat.{ℕ, ◌<◌}
use mathlib.Core.Path.{◌≡◌, refl, sym, ap, ◌∙◌}
use mathlib.Core.Bool.{Bool, true, false, true≢false}
use mathlib.Core.List.{List, [], ◌∷◌}
use lib.Dec.{eqb}
use borrow.Author.Tests.{eqb-true, eqb-false}
use Rattle.theory.specs.Clear.{clear}
use Rattle.theory.proofs.Cases.{test}
use Rattle.theory.proofs.Clear.{clear_iff}
use Rattle.shape.specs.Shape.{shape_error}
use Rattle.machine.specs.declared.leg.Mode.TheVariants.{Adaptive}
use Rattle.machine.specs.Number.{node_count}
use Rattle.machine.specs.Node.{is_node}
use Rattle.machine.specs.Torus.{leg, torus}
use Rattle.machine.proofs.Torus.{torus_laws}
use Rattle.machine.proofs.Nodes.{node_of}
use Rattle.plan.specs.Layout.{shape_of, faults_of}
use Rattle.plan.specs.Checks.{large}
use Rattle.dead.specs.Dead.{dead_node}
use Rattle.choice.specs.Answer.{Given, Refused}
use Rattle.choice.specs.Pair.{sound_in, far_in, chosen, pair}
use Rattle.choice.proofs.AtTorus.{far_lengths, direct_first}
use Rattle.choice.proofs.Demand.{demand}
use Rattle.losses.proofs.DeadTarget.{dead_target}
use Rattle.planned_sheet.specs.Sheet.{lists}
use Rattle.planned_sheet.proofs.Planning.{Source, pair_dead, pair_alive, unlisted}

-- The direct adaptive leg from S to D is clear.
abbrev pub direct_clear : List ℕ → ℕ → ℕ → Bool
direct_clear p S D = clear (torus (shape_of p)) (sound_in p) (leg D Adaptive) S

lists_direct : (D : ℕ) → lists (Given (leg D Adaptive ∷ [])) ≡ false
unfolding lists
lists_direct D = refl

lists_dead : (e : ℕ) → lists (Refused e) ≡ true
unfolding lists
lists_dead e = refl

module _ (p : List ℕ) (S : ℕ) (s : Source large p S) (D : ℕ) (node : is_node (shape_of p) D ≡ true) where
  ok : shape_error (shape_of p) ≡ 0
  ok = (node_of (shape_of p) D node).sound

  source : S < node_count (shape_of p)
  source = (node_of (shape_of p) S s.node).below

  target : D < node_count (shape_of p)
  target = (node_of (shape_of p) D node).below

  -- A destination that a clear leg leads to is sound.
  pub clear_alive : direct_clear p S D ≡ true → dead_node (faults_of p) D ≡ false
  clear_alive c =
      test (dead_node (faults_of p) D)
      (λ d. test (eqb S D)
      (λ e. let q : S ≡ D = eqb-true S D e in absurd (true≢false (sym d ∙ ap (dead_node (faults_of p)) (sym q) ∙ s.alive)))
      (λ e. absurd (true≢false (sym c ∙ dead_target p s.plan S D source target d (eqb-false S D e) Adaptive))))
      (λ d. d)

  pub pair_direct : direct_clear p S D ≡ true → pair large p S D ≡ Given (leg D Adaptive ∷ [])
  pair_direct c = pair_alive large p S s D node (clear_alive c) ∙ ap chosen (direct_first (far_in p) (shape_of p) (far_lengths large p s.plan) ok (sound_in p) S D source target c)

  -- A sound destination's answer is the direct adaptive leg only where that is clear.
  direct_clear_law : dead_node (faults_of p) D ≡ false → pair large p S D ≡ Given (leg D Adaptive ∷ []) → direct_clear p S D ≡ true
  direct_clear_law d e =
      let r = (demand large p S D s.plan s.node node s.alive d).planned.routed (leg D Adaptive ∷ []) e in
      (clear_iff (torus (shape_of p)) (torus_laws (shape_of p) ok) (sound_in p) (leg D Adaptive) target S source).1 r.clear.0

  pub unclear_listed : direct_clear p S D ≡ false → lists (pair large p S D) ≡ true
  unclear_listed c =
      test (dead_node (faults_of p) D)
      (λ d. ap lists (pair_dead large p S s D node d) ∙ lists_dead _)
      (λ d. test (lists (pair large p S D))
      (λ l. l)
      (λ l. absurd (true≢false (sym (direct_clear_law d (unlisted large p S s D node l)) ∙ c))))

  pub clear_unlisted : direct_clear p S D ≡ true → lists (pair large p S D) ≡ false
  clear_unlisted c = ap lists (pair_direct c) ∙ lists_direct D
