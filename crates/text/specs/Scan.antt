-- Where a byte stands in a text.
use Rattle.std.specs.Prelude.{ℕ, ◌==◌, List}
use Rattle.std.specs.List.{position_or_len}

-- How many bytes stand before the first such byte; the length where there is none.
abbrev pub index_of : ℕ → List ℕ → ℕ
index_of byte xs = position_or_len (λ b. b == byte) xs
