-- The first clear choice with at most k vias, and what one further via adds, for any lengths of legs and any notion of clear legs.
use Rattle.std.specs.Prelude.{ℕ, Bool, cond, List, [], ◌∷◌, ◌++◌}
use Rattle.std.proofs.Math.Option.{Option, none, some}
use Rattle.theory.specs.Clear.{clear_by}
use Rattle.theory.specs.Choice.{best}
use Rattle.machine.specs.declared.leg.Leg.{Leg}
use Rattle.machine.specs.declared.leg.Mode.TheVariants.{Adaptive, Deterministic}
use Rattle.machine.specs.Torus.{leg}
use Rattle.choice.specs.Choice.{Choice, before, over, choices_by}

-- `clear l p`: the leg l is clear from p. A choice is clear if all its legs are.
abbrev pub clear_choice : (Leg → ℕ → Bool) → ℕ → Choice → Bool
clear_choice clear p c = clear_by (λ l. l.target) clear p c

-- The first clear choice from S to D with at most k vias, on n nodes; `far p t` is the length of a leg from p to t.
unfoldable pub first_by : (ℕ → ℕ → ℕ) → (Leg → ℕ → Bool) → ℕ → ℕ → ℕ → ℕ → Option Choice
first_by far clear k n S D = best (before far S) (clear_choice clear S) (choices_by k n S D)

-- The leg from w to D in its better clear mode.
unfoldable pub better : (Leg → ℕ → Bool) → ℕ → ℕ → Option Leg
better clear w D = cond (clear (leg D Adaptive) w) (some (leg D Adaptive)) (cond (clear (leg D Deterministic) w) (some (leg D Deterministic)) none)

-- A leg as the choice of this leg alone.
abbrev pub directly : Option Leg → Option Choice
directly none = none
directly (some l) = some (l ∷ [])

unfoldable pub alone : Option Choice → List Choice
alone none = []
alone (some c) = c ∷ []

-- A choice with a leg behind it.
unfoldable pub followed : Option Choice → Option Leg → List Choice
followed none l = []
followed (some c) none = []
followed (some c) (some l) = (c ++ (l ∷ [])) ∷ []

-- The first with at most k vias to D, and for each node w the first with at most k vias to w with the better leg from w to D behind it.
unfoldable pub furthered : (ℕ → ℕ → ℕ) → (Leg → ℕ → Bool) → ℕ → ℕ → ℕ → ℕ → List Choice
furthered far clear k n S D = alone (first_by far clear k n S D) ++ over n (λ w. followed (first_by far clear k n S w) (better clear w D))
