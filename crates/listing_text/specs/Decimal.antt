-- Numbers as text.
use Rattle.std.specs.Prelude.{ℕ, zero, suc, ◌+◌, ◌/◌, ◌%◌, cond, List, [], ◌∷◌, ◌++◌, ltb}

-- The byte of a digit.
abbrev pub digit : ℕ → ℕ
digit d = 48 + d

-- The digits of n in base ten, at most k.
unfoldable pub digits : ℕ → ℕ → List ℕ
digits zero n = []
digits (suc k) n = let front = digits k (n / 10) in cond (ltb n 10) (digit n ∷ []) (front ++ digit (n % 10) ∷ [])

-- All of them: a number has no more digits than n + 1.
unfoldable pub decimal : ℕ → List ℕ
decimal n = digits (suc n) n
