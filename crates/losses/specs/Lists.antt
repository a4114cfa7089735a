-- A list in the first `count` of 256 words, and 0 behind them.
use Rattle.std.specs.Prelude.{ℕ, ◌-◌, ◌≤◌, ◌≡◌, ◌++◌, List, length, take, replicate}

abbrev pub padded : List ℕ → List ℕ
padded l = l ++ replicate (256 - length l) 0

-- So the list gives back the words and their count.
pub record InWords (words : List ℕ) (count : ℕ) : Type 0 where
  pub few : count ≤ 256
  pub filled : words ≡ padded (take count words)
  pub counted : length (take count words) ≡ count
