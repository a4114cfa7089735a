-- What the note of D says of the vias on the shortest ways to it.
use Prim.Native.Nat.{ℕ, ◌+◌, ◌≤◌, ◌<◌}
use native.Mathlib.Omega.{arith}
use mathlib.Core.Path.{◌≡◌, refl, sym, ap, ◌∙◌}
use mathlib.Core.Logic.{⊎_elim}
use mathlib.Core.Bool.{Bool, true, false, true≢false}
use mathlib.Core.List.{List, [], ◌∷◌}
use mathlib.Core.Option.{some}
use Rattle.theory.specs.Machine.{sum_by}
use Rattle.theory.specs.Clear.{clear}
use Rattle.shape.specs.declared.shape.Shape.{Shape}
use Rattle.shape.specs.Shape.{shape_error}
use Rattle.machine.specs.declared.leg.Mode.TheVariants.{Adaptive}
use Rattle.machine.specs.Number.{node_count}
use Rattle.machine.specs.Hop.{rule}
use Rattle.machine.specs.Torus.{leg, torus}
use Rattle.plan.specs.Layout.{shape_of}
use Rattle.plan.specs.Checks.{large}
use Rattle.packet.specs.declared.route.Route.{Route}
use Rattle.choice.specs.declared.outcome.Outcome.{Outcome}
use Rattle.choice.specs.Answer.{Given}
use Rattle.choice.specs.Choice.{Choice}
use Rattle.choice.specs.Outcome.{told, told_as}
use Rattle.choice.specs.Pair.{sound_in, far_in, route_in, chosen}
use Rattle.choice.specs.Search.{Lengths}
use Rattle.choice.proofs.AtTorus.{far_lengths}
use Rattle.choice.proofs.Search.{adaptive_clear, via_first}
use Rattle.search.specs.Number.{det_of}
use Rattle.choice_number.specs.Note.{det_by, value_by}
use Rattle.choice_number.proofs.ThirdLeg.{det_of_low, node_small}
use Rattle.notes.specs.Known.{is_clear, NoteTo}
use Rattle.notes.proofs.Knowing.{shape_ok}
use Rattle.first_clear.specs.Known.{route_told, Apart}

-- A choice of the least length as it is told.
pub told_by : (p : List ℕ) (S D : ℕ) (c : Choice) (r : Outcome) → route_in p S D ≡ some c → told (far_in p) S (Given c) ≡ r → r ≡ route_told p S D
told_by p S D c r e f = sym (ap (λ o. told (far_in p) S (chosen o)) e ∙ f)

adaptive_of : (b : Bool) → det_of b ≡ 0 → b ≡ true
adaptive_of true e = refl
adaptive_of false e = absurd (omega arith)

module _ (p : List ℕ) (s : Shape) (S D len : ℕ) (g : Apart p s S D len) (note : ℕ) (own : NoteTo p S D note) where
  ok : shape_error (shape_of p) ≡ 0
  ok = shape_ok p g.plan

  F : Lengths (shape_of p) (far_in p)
  F = far_lengths large p g.plan

  -- A via on the shortest ways with two adaptive legs is not below the note.
  not_below : (v : ℕ) → v < node_count (shape_of p) → is_clear p Adaptive S v ≡ true → is_clear p Adaptive v D ≡ true → far_in p S v + far_in p v D ≡ far_in p S D → note ≤ v
  unfolding value_by
  not_below v l out back sum =
      let d1 : det_by (clear (torus (shape_of p)) (sound_in p)) S v ≡ 0 = rw out refl in
      let d2 : det_by (clear (torus (shape_of p)) (sound_in p)) v D ≡ 0 = rw back refl in
      ⊎_elim (λ le. omega (arith, le, d1, d2, sum))
      (⊎_elim (λ a. absurd (true≢false (sym a ∙ g.direct))) (λ a. absurd (omega (arith, a.1, d1, d2, sum))))
      (own.least v l (adaptive_clear rule (shape_of p) ok (sound_in p) v S g.source l out) (adaptive_clear rule (shape_of p) ok (sound_in p) D v l g.target back))

  pub no_via : 4096 ≤ note → (v : ℕ) → v < node_count (shape_of p) → is_clear p Adaptive S v ≡ true → is_clear p Adaptive v D ≡ true → far_in p S v + far_in p v D ≡ far_in p S D → ⊥
  no_via over v l out back sum = omega (arith, node_small (shape_of p) ok v l, not_below v l out back sum)

  -- Below 4096 it is the lowest such via, and the route goes by it.
  pub by_own : note < 4096 → Outcome.Given (Route.Via note Adaptive Adaptive) len ≡ route_told p S D
  unfolding value_by told told_as sum_by
  by_own low =
      let r = own.real (omega arith) in
      let v = r.v in
      let is = r.is in
      let small = node_small (shape_of p) ok v r.below in
      let up = F.triangle S v D g.source r.below g.target in
      let d1 = det_of_low (is_clear p Adaptive S v) in
      let d2 = det_of_low (is_clear p Adaptive v D) in
      let e : v ≡ note = omega arith in
      let z1 : det_by (clear (torus (shape_of p)) (sound_in p)) S v ≡ 0 = omega arith in
      let z2 : det_by (clear (torus (shape_of p)) (sound_in p)) v D ≡ 0 = omega arith in
      let sum : far_in p S v + far_in p v D ≡ far_in p S D = omega arith in
      let out = adaptive_of (is_clear p Adaptive S v) z1 in
      let back = adaptive_of (is_clear p Adaptive v D) z2 in
      let long : far_in p S v + (far_in p v D + 0) ≡ len = omega (arith, g.distance) in
      rw (← e)
      (told_by p S D (leg v Adaptive ∷ leg D Adaptive ∷ []) (Outcome.Given (Route.Via v Adaptive Adaptive) len)
      (via_first (far_in p) (shape_of p) F ok (sound_in p) S D g.source g.target g.direct v r.below out back sum
      (λ u l o b q. omega (arith, e, not_below u (omega (arith, r.below)) o b q)))
      (ap (Outcome.Given (Route.Via v Adaptive Adaptive)) long))
