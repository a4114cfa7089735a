-- The code's own steps: a note, and what a second via can reach, read back as what planning a pair answers.
use Rattle.std.specs.Prelude.{ℕ, ◌+◌, ◌/◌, ◌%◌, Bool, true, false, leb, eqb}
use Rattle.numbers.specs.Numbers.{no_clear_choice}
use Rattle.numbers.specs.Refusals.{refusal}
use Rattle.machine.specs.declared.leg.Mode.{Mode}
use Rattle.machine.specs.declared.leg.Mode.TheVariants.{Adaptive, Deterministic}
use Rattle.packet.specs.declared.route.Route.{Route}
use Rattle.choice.specs.declared.outcome.Outcome.{Outcome}
use Rattle.search.specs.Number.{unclear, det_of}

abbrev pub mode_of : Bool → Mode
mode_of true = Adaptive
mode_of false = Deterministic

abbrev pub pick_outcome : Bool → Outcome → Outcome → Outcome
pick_outcome true a b = a
pick_outcome false a b = b

-- By the via of the note x of a destination at the distance len; `first`: the leg to the via is clear and adaptive. The other leg is, if it is not one of
-- the deterministic legs.
unfoldable pub one_told : ℕ → ℕ → Bool → Outcome
one_told x len first =
    pick_outcome (leb unclear x) (Outcome.Refused (refusal no_clear_choice))
    (Outcome.Given (Route.Via (x % 4096) (mode_of first) (mode_of (eqb (x / 4096 % 4) (det_of first)))) ((len + x / 16384) % 65536))

-- By the second via w, where x is what it can reach; `third`: the leg from it is clear and adaptive.
unfoldable pub two_told : ℕ → ℕ → Bool → Bool → Outcome
two_told x w first third =
    Outcome.Given (Route.Vias (x % 4096) w (mode_of first) (mode_of (eqb (x / 4096 % 4) (det_of first + det_of third))) (mode_of third)) (x / 16384 % 65536)
