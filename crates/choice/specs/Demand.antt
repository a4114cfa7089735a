-- Demand 3, of what planning a pair answers: between sound nodes of an accepted plan.
use Rattle.std.specs.Prelude.{ℕ, ◌≡◌, List}
use Rattle.numbers.specs.Numbers.{no_clear_choice}
use Rattle.theory.specs.Machine.{hops_of}
use Rattle.theory.specs.Plan.{Planned}
use Rattle.shape.specs.declared.shape.Shape.{Shape}
use Rattle.machine.specs.Torus.{torus}
use Rattle.packet.specs.declared.route.Route.{Route}
use Rattle.legs.specs.Backward.{backward}
use Rattle.packet.specs.Packet.{kept, WellStored}
use Rattle.packet.specs.New.{legs_to, new_packet}
use Rattle.weights.specs.declared.weights.Weights.{Weights}
use Rattle.weights.specs.Weights.{ones}
use Rattle.weights.specs.Distance.{distance}
use Rattle.plan.specs.Layout.{shape_of, weights_of}
use Rattle.plan.specs.Checks.{Limits}
use Rattle.choice.specs.declared.outcome.Outcome.{Outcome}
use Rattle.choice.specs.Choice.{Choice, AdmitsIn, length_from, before}
use Rattle.choice.specs.Answer.{Answer, Given, Refused}
use Rattle.choice.specs.Outcome.{told}
use Rattle.choice.specs.Pair.{sound_in, far_in, pair}

-- An answer with the legs c as the code tells it: a route to D with these legs, and as its length the sum of the legs' distances. With weights of 1
-- that is the route's hops.
pub record Tells (w : Weights) (s : Shape) (S D : ℕ) (a : Answer) (c : Choice) : Type 0 where
  pub route : Route
  pub legs : legs_to D route ≡ c
  pub told : told (distance w s) S a ≡ Outcome.Given route (length_from (distance w s) S c)
  pub hops : w ≡ ones → length_from (distance w s) S c ≡ hops_of (torus s) S c

-- Of an answer for S and D under the plan p: it refuses with 11 exactly when no admitted choice is clear; otherwise it gives one that is admitted,
-- clear, first in the order and to D, with a new packet of it, and of every new packet and every list of step and walk calls the whole claim, also where
-- hops are taken back among them. The order is by weight, the runs are by hops.
pub record PlannedIn (p : List ℕ) (S D : ℕ) (a : Answer) : Type 0 where
  pub planned : Planned (torus (shape_of p)) (backward (shape_of p)) (kept (shape_of p)) WellStored (sound_in p) (before (far_in p) S) (AdmitsIn (shape_of p) S D) S D (a ≡ Refused no_clear_choice) (λ c. a ≡ Given c) (new_packet S)
  pub tells : (c : Choice) → a ≡ Given c → Tells (weights_of p) (shape_of p) S D a c

abbrev pub Demand : Limits → List ℕ → ℕ → ℕ → Type 0
Demand L p S D = PlannedIn p S D (pair L p S D)
