-- 'The worked machine and its edges': the lines marked (P), one table, with the documents' own numbers; w_0_1 and ring_of_4 are E5's.
use Rattle.std.specs.Prelude.{ℕ, ◌≡◌, List, [], ◌∷◌}
use Rattle.machine.specs.declared.leg.Mode.TheVariants.{Adaptive}
use Rattle.numbers.specs.Refusals.{refusal}
use Rattle.packet.specs.declared.route.Route.{Route}
use Rattle.plan.specs.Checks.{large, plan_error}
use Rattle.plan.specs.Worked.{W}
use Rattle.choice.specs.declared.outcome.Outcome.{Outcome}
use Rattle.choice.specs.Outcome.{told}
use Rattle.choice.specs.Pair.{far_in, pair}

-- A sheet of extents a, b, 1 and this wrap byte: with no fault, or with one of node 0.
abbrev pub sheet : ℕ → ℕ → ℕ → List ℕ
sheet a b wrap = 1 ∷ 0 ∷ 6 ∷ a ∷ b ∷ 1 ∷ wrap ∷ 0 ∷ 0 ∷ []

abbrev pub fault : ℕ → ℕ → ℕ → ℕ → List ℕ
fault a b wrap kind = 1 ∷ 0 ∷ 9 ∷ a ∷ b ∷ 1 ∷ wrap ∷ 0 ∷ 1 ∷ 0 ∷ 0 ∷ kind ∷ []

-- What planning a pair tells: the route with its length, or the number.
abbrev pub tells : List ℕ → ℕ → ℕ → Outcome
tells p S D = told (far_in p) S (pair large p S D)

pub record Worked : Type 0 where
  pub w_0_1 : tells W 0 1 ≡ Outcome.Given (Route.Vias 3 2 Adaptive Adaptive Adaptive) 3
  pub w_0_2 : tells W 0 2 ≡ Outcome.Given (Route.Via 3 Adaptive Adaptive) 2
  pub w_0_7 : tells W 0 7 ≡ Outcome.Given (Route.Direct Adaptive) 2
  pub w_0_0 : tells W 0 0 ≡ Outcome.Given (Route.Direct Adaptive) 0
  pub ring_of_4 : tells (fault 4 1 1 0) 0 1 ≡ Outcome.Given (Route.Vias 3 2 Adaptive Adaptive Adaptive) 3
  pub ring_of_5 : tells (fault 5 1 1 0) 0 1 ≡ Outcome.Given (Route.Via 3 Adaptive Adaptive) 4
  pub open_2 : tells (fault 2 1 0 0) 0 1 ≡ Outcome.Refused (refusal 11)
  pub dead_node_law : tells (fault 1 1 0 3) 0 0 ≡ Outcome.Refused (refusal 10)
  pub extent_16 : plan_error large (sheet 16 1 0) ≡ 0
  pub extent_17 : plan_error large (sheet 17 1 0) ≡ 5
  pub wrapped_3 : plan_error large (sheet 3 1 1) ≡ 0
  pub wrapped_2 : plan_error large (sheet 2 1 1) ≡ 6
