-- W's route sheet for source 0, as version 3 has it, with E5's first entry; and as version 2 had it, with E2's version and first entry.
use Rattle.std.specs.Prelude.{ℕ, List, [], ◌∷◌}

abbrev pub sheet_w : List ℕ
sheet_w =
    3 ∷ 0 ∷ 60 ∷ 0 ∷ 0 ∷ 0 ∷ 8
    ∷ 0 ∷ 1 ∷ 32 ∷ 0 ∷ 3 ∷ 0 ∷ 2
    ∷ 0 ∷ 2 ∷ 16 ∷ 0 ∷ 3 ∷ 0 ∷ 0
    ∷ 0 ∷ 5 ∷ 16 ∷ 0 ∷ 4 ∷ 0 ∷ 0
    ∷ 0 ∷ 6 ∷ 16 ∷ 0 ∷ 3 ∷ 0 ∷ 0
    ∷ 0 ∷ 9 ∷ 16 ∷ 0 ∷ 4 ∷ 0 ∷ 0
    ∷ 0 ∷ 10 ∷ 16 ∷ 0 ∷ 3 ∷ 0 ∷ 0
    ∷ 0 ∷ 13 ∷ 16 ∷ 0 ∷ 12 ∷ 0 ∷ 0
    ∷ 0 ∷ 14 ∷ 16 ∷ 0 ∷ 3 ∷ 0 ∷ 0
    ∷ []

abbrev pub second_w : List ℕ
second_w =
    2 ∷ 0 ∷ 44 ∷ 0 ∷ 0 ∷ 0 ∷ 8
    ∷ 0 ∷ 1 ∷ 3 ∷ 0 ∷ 3
    ∷ 0 ∷ 2 ∷ 2 ∷ 0 ∷ 3
    ∷ 0 ∷ 5 ∷ 2 ∷ 0 ∷ 4
    ∷ 0 ∷ 6 ∷ 2 ∷ 0 ∷ 3
    ∷ 0 ∷ 9 ∷ 2 ∷ 0 ∷ 4
    ∷ 0 ∷ 10 ∷ 2 ∷ 0 ∷ 3
    ∷ 0 ∷ 13 ∷ 2 ∷ 0 ∷ 12
    ∷ 0 ∷ 14 ∷ 2 ∷ 0 ∷ 3
    ∷ []

-- The latter written again.
abbrev pub second_again : List ℕ
second_again =
    3 ∷ 0 ∷ 60 ∷ 0 ∷ 0 ∷ 0 ∷ 8
    ∷ 0 ∷ 1 ∷ 18 ∷ 0 ∷ 3 ∷ 0 ∷ 0
    ∷ 0 ∷ 2 ∷ 16 ∷ 0 ∷ 3 ∷ 0 ∷ 0
    ∷ 0 ∷ 5 ∷ 16 ∷ 0 ∷ 4 ∷ 0 ∷ 0
    ∷ 0 ∷ 6 ∷ 16 ∷ 0 ∷ 3 ∷ 0 ∷ 0
    ∷ 0 ∷ 9 ∷ 16 ∷ 0 ∷ 4 ∷ 0 ∷ 0
    ∷ 0 ∷ 10 ∷ 16 ∷ 0 ∷ 3 ∷ 0 ∷ 0
    ∷ 0 ∷ 13 ∷ 16 ∷ 0 ∷ 12 ∷ 0 ∷ 0
    ∷ 0 ∷ 14 ∷ 16 ∷ 0 ∷ 3 ∷ 0 ∷ 0
    ∷ []
