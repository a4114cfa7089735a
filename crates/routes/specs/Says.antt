-- What a route sheet says of a destination: 'a companion call gives the route or the number'.
use Rattle.std.specs.Prelude.{ℕ, cond, List, [], ◌∷◌, eqb}
use Rattle.machine.specs.declared.leg.Mode.TheVariants.{Adaptive}
use Rattle.machine.specs.Torus.{leg}
use Rattle.choice.specs.Answer.{Answer, Given, answered}
use Rattle.plan.specs.Checks.{Limits}
use Rattle.routes.specs.declared.layout.Entry.{Entry}
use Rattle.routes.specs.Layout.{entries_of}
use Rattle.routes.specs.Said.{said_by}
use Rattle.routes.specs.Lookup.{lookup_error}

-- A destination not listed is direct and adaptive.
unfoldable pub says_of : List Entry → ℕ → Answer
says_of [] d = Given (leg d Adaptive ∷ [])
says_of (e ∷ es) d = cond (eqb e.dest d) (said_by e) (says_of es d)

-- The number with which the lookup is declined, or what the sheet says.
unfoldable pub says : Limits → List ℕ → List ℕ → ℕ → Answer
says L p s d = answered (lookup_error L p s d) (says_of (entries_of s) d)
