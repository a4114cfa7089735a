-- The code's own steps: the places of a mask one by one.
use Rattle.std.specs.Prelude.{ℕ, ◌+◌, ◌≤◌, ◌<◌, ◌≡◌, Option, MatchOption}
use Rattle.rows.specs.NextSet.{NextSet}

-- One turn: of the places below len the one that is to come, now, is given, and behind it next is to come.
abbrev pub Onward : ℕ → ℕ → ℕ → Option ℕ → ℕ → Type 0
Onward mask len now r next = MatchOption r (len ≤ now) (λ x. (x ≡ now) × (x < len) × NextSet mask (x + 1) next)
