-- An answer as the code's enum: the route with its length from the source S, or the refusal.
use Rattle.std.specs.Prelude.{ℕ, [], ◌∷◌}
use Rattle.numbers.specs.Refusals.{number, refusal}
use Rattle.packet.specs.declared.route.Route.{Route}
use Rattle.choice.specs.declared.outcome.Outcome.{Outcome}
use Rattle.choice.specs.Choice.{length_from}
use Rattle.choice.specs.Answer.{Answer, Given, Refused}

-- With this length. Lists of no legs, or of over three, are never admitted and read as a refusal that no entry of a sheet has.
unfoldable pub told_as : ℕ → Answer → Outcome
told_as len (Given []) = Outcome.Refused (refusal 0)
told_as len (Given (l ∷ [])) = Outcome.Given (Route.Direct l.mode) len
told_as len (Given (l ∷ m ∷ [])) = Outcome.Given (Route.Via l.target l.mode m.mode) len
told_as len (Given (l ∷ m ∷ n ∷ [])) = Outcome.Given (Route.Vias l.target m.target l.mode m.mode n.mode) len
told_as len (Given (l ∷ m ∷ n ∷ o ∷ ls)) = Outcome.Refused (refusal 0)
told_as len (Refused e) = Outcome.Refused (refusal e)

-- Its length is the sum of the legs' distances.
unfoldable pub told : (ℕ → ℕ → ℕ) → ℕ → Answer → Outcome
told far S (Given c) = told_as (length_from far S c) (Given c)
told far S (Refused e) = Outcome.Refused (refusal e)

-- 0, or the number of the refusal.
abbrev pub outcome_number : Outcome → ℕ
outcome_number (Outcome.Given r len) = 0
outcome_number (Outcome.Refused e) = number e

-- The same of an answer: what an outcome that tells it has as its number.
abbrev pub told_number : Answer → ℕ
told_number (Given c) = 0
told_number (Refused e) = e
