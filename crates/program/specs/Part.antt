-- The name of the file that a job writes to.
use Rattle.std.specs.Prelude.{ℕ, List, [], ◌∷◌, ◌++◌, take}

-- OUT, then `.part`.
abbrev pub whole_name : List ℕ → List ℕ
whole_name out = out ++ (46 ∷ 112 ∷ 97 ∷ 114 ∷ 116 ∷ [])

-- The same, as far as there is room.
abbrev pub part_name : ℕ → List ℕ → List ℕ
part_name room out = take room (whole_name out)
