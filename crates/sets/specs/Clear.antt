-- The nodes of a product with a clear leg from one end, or to it, where the first `count` losses are all that is lost; at most 256 are looked at.
use Rattle.std.specs.Prelude.{ℕ, min, Bool, not, ◌&&◌, List, get_or}
use Rattle.rows.specs.Product.{node_at, product}
use Rattle.losses.specs.Loss.{some_below}
use Rattle.sets.specs.Part.{loss_in}

-- One of the first n losses is met, at bit x of row r.
unfoldable pub some_in : List ℕ → List ℕ → ℕ → ℕ → ℕ → Bool
some_in ends losses n r x = some_below n (λ i. loss_in ends (get_or losses i 0) (node_at r x))

unfoldable pub clear_in : ℕ → ℕ → ℕ → List ℕ → List ℕ → ℕ → ℕ → ℕ → Bool
clear_in bx by bz ends losses count r x = product bx by bz r x && not (some_in ends losses (min count 256) r x)
