-- Request E1 by example, with its own numbers: 5 × 2 boards, X wrapped, link 0 X+ dead, plan version 2. By hops the way from 0 to 1 goes by Y; where a hop along
-- Y weighs 2 it goes round the ring.
use Rattle.std.specs.Prelude.{ℕ, ◌≡◌, List, [], ◌∷◌}
use Rattle.machine.specs.declared.leg.Mode.TheVariants.{Adaptive}
use Rattle.packet.specs.declared.route.Route.{Route}
use Rattle.plan.specs.Checks.{large, plan_error}
use Rattle.choice.specs.declared.outcome.Outcome.{Outcome}
use Rattle.choice.specs.Worked.{tells}

-- With this weight of Y, and a fault of this kind at node 0.
abbrev pub faulty : ℕ → ℕ → List ℕ
faulty weight kind = 2 ∷ 0 ∷ 12 ∷ 5 ∷ 2 ∷ 1 ∷ 1 ∷ 1 ∷ weight ∷ 1 ∷ 0 ∷ 1 ∷ 0 ∷ 0 ∷ kind ∷ []

abbrev pub machine : ℕ → List ℕ
machine weight = faulty weight 0

pub record Weighed : Type 0 where
  pub by_hops : tells (machine 1) 0 1 ≡ Outcome.Given (Route.Vias 5 6 Adaptive Adaptive Adaptive) 3
  pub by_weight : tells (machine 2) 0 1 ≡ Outcome.Given (Route.Via 3 Adaptive Adaptive) 4
  pub weight_8 : plan_error large (machine 8) ≡ 0
  pub weight_9 : plan_error large (machine 9) ≡ 16
  pub weight_0 : plan_error large (machine 0) ≡ 16
  -- 16 comes before 7.
  pub kind_4 : plan_error large (faulty 8 4) ≡ 7
  pub both : plan_error large (faulty 9 4) ≡ 16
  -- No fault; then a byte less, and another version.
  pub bytes_12 : plan_error large (2 ∷ 0 ∷ 9 ∷ 1 ∷ 1 ∷ 1 ∷ 0 ∷ 1 ∷ 1 ∷ 1 ∷ 0 ∷ 0 ∷ []) ≡ 0
  pub bytes_11 : plan_error large (2 ∷ 0 ∷ 8 ∷ 1 ∷ 1 ∷ 1 ∷ 0 ∷ 1 ∷ 1 ∷ 1 ∷ 0 ∷ []) ≡ 1
  pub version_3 : plan_error large (3 ∷ 0 ∷ 9 ∷ 1 ∷ 1 ∷ 1 ∷ 0 ∷ 1 ∷ 1 ∷ 1 ∷ 0 ∷ 0 ∷ []) ≡ 2
