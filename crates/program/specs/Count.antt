-- Counts of sheets, boards and entries.
use Rattle.std.specs.Prelude.{ℕ, ◌+◌, min}

-- A sum is at most the largest number of its field.
abbrev pub plus : ℕ → ℕ → ℕ
plus a b = min (a + b) 4294967295
