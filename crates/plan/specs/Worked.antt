-- 'The worked machine': machine W is 4, 4, 1 with X and Y wrapped and link 0 X+ dead.
use Rattle.std.specs.Prelude.{ℕ, List, [], ◌∷◌}

abbrev pub W : List ℕ
W = 1 ∷ 0 ∷ 9 ∷ 4 ∷ 4 ∷ 1 ∷ 3 ∷ 0 ∷ 1 ∷ 0 ∷ 0 ∷ 0 ∷ []
