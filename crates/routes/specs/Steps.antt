-- The code's own steps.
use Rattle.std.specs.Prelude.{ℕ, ◌+◌, ◌/◌, cond, List, [], ◌∷◌, eqb, Option, Some, None, option_map}
use Rattle.shape.specs.declared.shape.Shape.{Shape}
use Rattle.machine.specs.declared.leg.Mode.TheVariants.{Adaptive}
use Rattle.machine.specs.Torus.{leg}
use Rattle.weights.specs.declared.weights.Weights.{Weights}
use Rattle.weights.specs.Distance.{distance_answer}
use Rattle.choice.specs.Answer.{Answer, Given}
use Rattle.routes.specs.declared.layout.Entry.{Entry}
use Rattle.routes.specs.Layout.{entry_at}
use Rattle.routes.specs.Said.{said_by}
use Rattle.routes.specs.Lookup.{find_entry}

-- The entry of the sheet s for the destination d.
unfoldable pub found_in : List ℕ → ℕ → Option Entry
found_in s d = option_map (entry_at s) (find_entry s d)

-- A destination not listed is direct and adaptive.
unfoldable pub or_direct : ℕ → Option Entry → Answer
or_direct d (Some e) = said_by e
or_direct d None = Given (leg d Adaptive ∷ [])

-- The length of a route by v, and by v and then u; and of an entry's route from the source S, of a refusal any number.
abbrev pub length_via : Weights → Shape → ℕ → ℕ → ℕ → ℕ
length_via w s S v D = distance_answer w s S v + distance_answer w s v D

abbrev pub length_vias : Weights → Shape → ℕ → ℕ → ℕ → ℕ → ℕ
length_vias w s S v u D = distance_answer w s S v + (distance_answer w s v u + distance_answer w s u D)

unfoldable pub length_by : Weights → Shape → ℕ → Entry → ℕ
length_by w s S e =
    cond (eqb (e.kind / 16) 2) (length_vias w s S e.via e.second e.dest)
    (cond (eqb (e.kind / 16) 1) (length_via w s S e.via e.dest) (distance_answer w s S e.dest))
