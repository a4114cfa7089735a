-- The laws of the choices at the machine of document 01: clear legs by walks, distances by weight.
use Prim.Native.Nat.{ℕ, suc, ◌<◌}
use mathlib.Core.Path.{◌≡◌, refl}
use mathlib.Core.Bool.{Bool, true}
use mathlib.Core.List.{List, [], ◌∷◌}
use mathlib.Core.Option.{some}
use Rattle.theory.specs.Machine.{Inside}
use Rattle.theory.specs.Clear.{clear}
use Rattle.theory.specs.Choice.{best}
use Rattle.theory.specs.Plan.{planned}
use Rattle.theory.proofs.Clear.{empty_clear, clear_iff}
use Rattle.shape.specs.declared.shape.Shape.{Shape}
use Rattle.shape.specs.Shape.{shape_error}
use Rattle.machine.specs.declared.leg.Mode.TheVariants.{Adaptive}
use Rattle.machine.specs.Number.{node_count}
use Rattle.machine.specs.Torus.{leg, torus}
use Rattle.machine.proofs.Torus.{torus_laws}
use Rattle.weights.proofs.Laws.{distance_self, distance_most, distance_triangle, shortest_same}
use Rattle.plan.specs.Layout.{shape_of, weights_of}
use Rattle.plan.specs.Checks.{Limits, torus_plans, plan_error}
use Rattle.plan.proofs.Plans.{accepted}
use Rattle.choice.specs.Choice.{Choice, most_vias, targets_of, dets_of, length_from, Below, AdmitsIn, before}
use Rattle.choice.specs.Further.{first_by, better, directly, furthered}
use Rattle.choice.specs.Search.{Lengths}
use Rattle.choice.specs.Pair.{far_in, route_by}
use Rattle.choice.proofs.Lists.{below_targets}
use Rattle.choice.proofs.Further as Further
use Rattle.choice.proofs.Shortest as Shortest

-- The targets of an admitted choice are nodes.
below_inside : (s : Shape) (c : Choice) → Below (node_count s) (targets_of c) → Inside (torus s) c
unfolding targets_of
below_inside s [] h = tt
below_inside s (l ∷ ls) h = (h.0, below_inside s ls h.1)

pub admits_inside : (s : Shape) (S D : ℕ) → D < node_count s → (c : Choice) → AdmitsIn s S D c → Inside (torus s) c
admits_inside s S D h_d c a = below_inside s c (below_targets (node_count s) S c (rw a.ends h_d) a.inside)

-- Distances under an accepted plan are what the search asks of them.
pub far_lengths : (L : Limits) (p : List ℕ) → plan_error L p ≡ 0 → Lengths (shape_of p) (far_in p)
far_lengths L p e =
    let a = accepted torus_plans L p e in
    let w = weights_of p in
    let s = shape_of p in
    record {
      still = distance_self w s;
      most = distance_most w a.weights s a.shape;
      triangle = distance_triangle w a.weights s a.shape;
      shortest = shortest_same w a.weights s a.shape;
    }

-- An empty leg is clear.
pub empty_adaptive : (s : Shape) → shape_error s ≡ 0 → (sound : ℕ → ℕ → Bool) (S : ℕ) → S < node_count s → clear (torus s) sound (leg S Adaptive) S ≡ true
empty_adaptive s h sound S h_s = (clear_iff (torus s) (torus_laws s h) sound (leg S Adaptive) h_s S h_s).1 (empty_clear (torus s) (torus_laws s h) sound (leg S Adaptive) S h_s refl)

module _ (far : ℕ → ℕ → ℕ) (s : Shape) (F : Lengths s far) (h : shape_error s ≡ 0) (sound : ℕ → ℕ → Bool) (S D : ℕ) (h_s : S < node_count s) (h_d : D < node_count s) where
  -- The first clear choice with at most k + 1 vias: the first of those with at most k, and of those to any node with the better leg from there behind.
  pub further_first :
      (k : ℕ) → first_by far (clear (torus s) sound) (suc k) (node_count s) S D
      ≡ best (before far S) (λ _. true) (furthered far (clear (torus s) sound) k (node_count s) S D)
  further_first k = Further.further_first far (clear (torus s) sound) (node_count s) S (F.still S) (empty_adaptive s h sound S h_s) k D h_d

  -- No choice comes before a clear direct adaptive leg.
  pub direct_first : clear (torus s) sound (leg D Adaptive) S ≡ true → route_by far s sound S D ≡ some (leg D Adaptive ∷ [])
  unfolding route_by planned first_by
  direct_first c = Shortest.direct_first far (node_count s) F.still F.triangle (clear (torus s) sound) most_vias S D h_s h_d c

  -- Two legs are enough where the first choice with at most one via is as short as can be and adaptive throughout.
  pub two_enough :
      (c : Choice) → first_by far (clear (torus s) sound) 1 (node_count s) S D ≡ some c → length_from far S c ≡ far S D → dets_of c ≡ 0 → route_by far s sound S D ≡ some c
  unfolding route_by planned first_by
  two_enough c = Shortest.enough far (node_count s) F.still F.triangle (clear (torus s) sound) 1 S D h_s h_d c

  pub no_via_first : (t : ℕ) → first_by far (clear (torus s) sound) 0 (node_count s) S t ≡ directly (better (clear (torus s) sound) S t)
  no_via_first t = Further.no_via_first far (clear (torus s) sound) (node_count s) S (F.still S) (empty_adaptive s h sound S h_s) t
