-- The steps on the shortest ways give the route, or that the direct deterministic leg is not clear.
use Prim.Native.Nat.{ℕ, ◌+◌, ◌/◌, ◌%◌, ◌≤◌, ◌<◌}
use native.Mathlib.Omega.{arith}
use mathlib.Core.Path.{◌≡◌, refl, sym, ap, ◌∙◌}
use mathlib.Core.Bool.{Bool, true, false}
use mathlib.Core.List.{List, [], ◌∷◌}
use borrow.Author.Tests.{lt-ltb, le-ltb}
use Rattle.std.specs.Prelude.{Option, Some, None}
use Rattle.theory.specs.Machine.{sum_by}
use Rattle.theory.proofs.Cases.{by_le}
use Rattle.shape.specs.declared.shape.Shape.{Shape}
use Rattle.shape.specs.Shape.{shape_error}
use Rattle.machine.specs.declared.leg.Mode.TheVariants.{Adaptive, Deterministic}
use Rattle.machine.specs.Number.{node_count}
use Rattle.machine.specs.Torus.{leg}
use Rattle.plan.specs.Layout.{shape_of}
use Rattle.plan.specs.Checks.{large}
use Rattle.packet.specs.declared.route.Route.{Route}
use Rattle.choice.specs.declared.outcome.Outcome.{Outcome}
use Rattle.choice.specs.Outcome.{told, told_as}
use Rattle.choice.specs.Pair.{sound_in, far_in}
use Rattle.choice.specs.Search.{Lengths}
use Rattle.choice.proofs.AtTorus.{far_lengths}
use Rattle.choice.proofs.Search.{deterministic_first}
use Rattle.search.specs.Number.{unclear}
use Rattle.choice_number.specs.Told.{one_told}
use Rattle.choice_number.proofs.TwoShort as Short
use Rattle.choice_number.proofs.Answers.{one_answer}
use Rattle.notes.specs.Known.{is_clear}
use Rattle.notes.proofs.Knowing.{shape_ok}
use Rattle.first_clear.specs.Known.{route_told, via_route, Near, Nearing}
use Rattle.first_clear.proofs.Own.{told_by, no_via}

module _ (p : List ℕ) (s : Shape) (S D len : ℕ) (fa : List ℕ) (straight : Bool) (note pair : ℕ) (g : Nearing p s S D len fa straight note pair) where
  ok : shape_error (shape_of p) ≡ 0
  ok = shape_ok p g.apart.plan

  F : Lengths (shape_of p) (far_in p)
  F = far_lengths large p g.apart.plan

  h_s : S < node_count (shape_of p)
  h_s = g.apart.source

  h_d : D < node_count (shape_of p)
  h_d = g.apart.target

  no_one : (v : ℕ) → v < node_count (shape_of p) → is_clear p Adaptive S v ≡ true → is_clear p Adaptive v D ≡ true → far_in p S v + far_in p v D ≡ far_in p S D → ⊥
  no_one = no_via p s S D len g.apart note g.own g.over

  pub by_two : pair < unclear → Outcome.Given (Route.Vias (pair / 4096 % 4096) (pair % 4096) Adaptive Adaptive Adaptive) len ≡ route_told p S D
  by_two low = ap (Outcome.Given (Route.Vias (pair / 4096 % 4096) (pair % 4096) Adaptive Adaptive Adaptive)) g.apart.distance ∙ g.two.given low

  pub not_straight : straight ≡ false → is_clear p Deterministic S D ≡ false
  not_straight e = sym g.one ∙ e

  -- ---- there are none
  module _ (none : unclear ≤ pair) where
    pub directly : straight ≡ true → Outcome.Given (Route.Direct Deterministic) len ≡ route_told p S D
    unfolding told told_as sum_by
    directly e =
        told_by p S D (leg D Deterministic ∷ []) (Outcome.Given (Route.Direct Deterministic) len)
        (deterministic_first (far_in p) (shape_of p) F ok (sound_in p) S D h_s h_d g.apart.direct no_one
        (λ u x lu lx one two three b f. g.two.none none u x (record { below = lu; behind = lx; one = one; two = two; three = three; between = b; further = f }))
        (sym g.one ∙ e))
        (ap (Outcome.Given (Route.Direct Deterministic)) (omega (arith, g.apart.distance)))

    none_two : (u x : ℕ) → Short.Two (far_in p) (shape_of p) F ok (sound_in p) S D h_s h_d g.apart.direct no_one u x → ⊥
    none_two u x t =
        g.two.none none u x (record { below = t.below; behind = t.behind; one = t.one; two = t.two; three = t.three; between = t.between; further = t.further })

    pub by_one_leg : straight ≡ false → note < 8192 → (first : Bool) → first ≡ is_clear p Adaptive S (note % 4096) → (r : Outcome) → r ≡ one_told note len first → r ≡ route_told p S D
    by_one_leg e low first ef r er =
        er ∙ one_answer (far_in p) (shape_of p) F ok (sound_in p) S D h_s h_d (not_straight e) note g.own
        (Short.above_short (far_in p) (shape_of p) F ok (sound_in p) S D h_s h_d g.apart.direct no_one (not_straight e) none_two note low)
        len g.apart.distance first (λ _. ef)

-- ---- what such a step gives, and when it gives nothing
some_same : (r o : Outcome) → ◌≡◌ {A = Option Outcome} (Some r) (Some o) → o ≡ r
some_same r o e = cc

some_none : (r : Outcome) → ◌≡◌ {A = Option Outcome} (Some r) None → ⊥
some_none r e = let z : ◌≡◌ {A = ℕ} 0 1 = cc in omega arith

none_some : (o : Outcome) → ◌≡◌ {A = Option Outcome} None (Some o) → ⊥
none_some o e = let z : ◌≡◌ {A = ℕ} 0 1 = cc in omega arith

pub given_near : (p : List ℕ) (S D : ℕ) (r : Outcome) → r ≡ route_told p S D → Near p S D (Some r)
given_near p S D r is = record { given = λ o e. some_same r o e ∙ is; none = λ e. absurd (some_none r e) }

pub none_near : (p : List ℕ) (S D : ℕ) → is_clear p Deterministic S D ≡ false → Near p S D None
none_near p S D blocked = record { given = λ o e. absurd (none_some o e); none = λ _. blocked }

-- By the note of the destination.
pub via_low : (note len : ℕ) (r : Option Outcome) → r ≡ via_route note len → (o : Outcome) → r ≡ Some o → (note < 4096) × (o ≡ Outcome.Given (Route.Via note Adaptive Adaptive) len)
unfolding via_route
via_low note len r e o is =
    by_le 4096 note
    (λ k. let z : via_route note len ≡ None = rw (le-ltb note 4096 k) refl in absurd (none_some o (sym (e ∙ z) ∙ is)))
    (λ k. let z : via_route note len ≡ Some (Outcome.Given (Route.Via note Adaptive Adaptive) len) = rw (lt-ltb note 4096 k) refl in (k, some_same _ o (sym (e ∙ z) ∙ is)))

pub via_high : (note len : ℕ) (r : Option Outcome) → r ≡ via_route note len → r ≡ None → 4096 ≤ note
unfolding via_route
via_high note len r e is =
    by_le 4096 note (λ k. k)
    (λ k. let z : via_route note len ≡ Some (Outcome.Given (Route.Via note Adaptive Adaptive) len) = rw (lt-ltb note 4096 k) refl in absurd (some_none _ (sym (e ∙ z) ∙ is)))
