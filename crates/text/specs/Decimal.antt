-- What the contracts of `decimal` cite.
use Rattle.std.specs.Prelude.{ℕ, ◌≡◌, ◌+◌, ◌-◌, ◌*◌, ◌≤◌, Bool, true, cond, ◌&&◌, List, [], ◌∷◌, leb}
use Rattle.std.specs.Prelude.{Option, None, Some, Result, Ok, Err, MatchOption}

-- a number that was read is at most `most`
abbrev pub AtMost : ℕ → Option ℕ → Type 0
AtMost most (Some n) = n ≤ most
AtMost most None = Unit {0}

-- a byte is one of '0' to '9'
unfoldable pub is_digit : ℕ → Bool
is_digit b = leb 48 b && leb b 57

-- a number with one more digit
abbrev pub with : ℕ → ℕ → ℕ
with value b = 10 * value + (b - 48)

-- the number, if all that `ok` says holds
abbrev pub given : Bool → ℕ → Option ℕ
given ok n = cond ok (Some n) None

-- the number with one more digit, if the byte is a digit and the number is at most `most`
unfoldable pub longer_by : ℕ → ℕ → ℕ → Option ℕ
longer_by most value b = given (is_digit b && leb (with value b) most) (with value b)

-- every byte is a digit
unfoldable pub all_digits : List ℕ → Bool
all_digits [] = true
all_digits (b ∷ s) = is_digit b && all_digits s

-- the number `value` with the digits of a list behind it
unfoldable pub value_from : ℕ → List ℕ → ℕ
value_from value [] = value
value_from value (b ∷ s) = value_from (with value b) s

-- what is read where the digits of a list stand behind the number `value`
unfoldable pub number_from : ℕ → ℕ → List ℕ → Option ℕ
number_from most value s = given (all_digits s && leb (value_from value s) most) (value_from value s)

-- what is read of a list: no digits at all are no number
unfoldable pub number_of : ℕ → List ℕ → Option ℕ
number_of most [] = None
number_of most (b ∷ s) = number_from most 0 (b ∷ s)

-- the same as a value of another type: `gives` says what the number is as one
abbrev pub ReadAs : {T E : Type 0} → (ℕ → Result T E → Type 0) → Option ℕ → Option T → Type 0
ReadAs gives None r = r ≡ None
ReadAs {T} {E} gives (Some n) r = MatchOption r ((e : E) × gives n (Err e)) (λ x. gives n (Ok x))
