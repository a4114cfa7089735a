-- What planning a pair answers.
use Rattle.std.specs.Prelude.{ℕ, Bool, not, ◌||◌, List}
use Rattle.std.proofs.Math.Option.{Option, none, some}
use Rattle.numbers.specs.Numbers.{node_outside, dead_end, no_clear_choice}
use Rattle.theory.specs.Checks.{declined, ◌then◌}
use Rattle.theory.specs.Plan.{planned}
use Rattle.shape.specs.declared.shape.Shape.{Shape}
use Rattle.machine.specs.Node.{is_node}
use Rattle.machine.specs.Torus.{torus}
use Rattle.weights.specs.Distance.{distance}
use Rattle.plan.specs.Layout.{shape_of, weights_of, faults_of}
use Rattle.plan.specs.Checks.{Limits, plan_error}
use Rattle.dead.specs.Dead.{dead_node, sound}
use Rattle.choice.specs.Choice.{Choice, choices, before}
use Rattle.choice.specs.Answer.{Answer, Given, Refused, answered}

-- The links of a plan that are sound.
abbrev pub sound_in : List ℕ → ℕ → ℕ → Bool
sound_in p n d = sound (shape_of p) (faults_of p) n d

-- The distance from one node to another under a plan, by its weights.
abbrev pub far_in : List ℕ → ℕ → ℕ → ℕ
far_in p = distance (weights_of p) (shape_of p)

-- The first clear choice in the order: where `far n t` is the distance from n to t and `sound n d` says which links are sound, and under the plan p.
unfoldable pub route_by : (ℕ → ℕ → ℕ) → Shape → (ℕ → ℕ → Bool) → ℕ → ℕ → Option Choice
route_by far s sound S D = planned (torus s) sound (before far S) S (choices s S D)

abbrev pub route_in : List ℕ → ℕ → ℕ → Option Choice
route_in p S D = route_by (far_in p) (shape_of p) (sound_in p) S D

-- A pair's checks are those of the plan, then 9, 10.
unfoldable pub pair_error : Limits → List ℕ → ℕ → ℕ → ℕ
pair_error L p S D =
    plan_error L p
    then declined (not (is_node (shape_of p) S) || not (is_node (shape_of p) D)) node_outside
    then declined (dead_node (faults_of p) S || dead_node (faults_of p) D) dead_end
    then 0

abbrev pub chosen : Option Choice → Answer
chosen none = Refused no_clear_choice
chosen (some c) = Given c

unfoldable pub pair : Limits → List ℕ → ℕ → ℕ → Answer
pair L p S D = answered (pair_error L p S D) (chosen (route_in p S D))
