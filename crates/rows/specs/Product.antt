-- A set of nodes less others, and a set that is a product. Nodes are told by their row r and bit x.
use Rattle.std.specs.Prelude.{ℕ, ◌/◌, ◌%◌, ◌<◌, ◌≡◌, Bool, not, ◌&&◌, List, length, get_or}
use Rattle.shape.specs.declared.shape.Coords.{Coords}
use Rattle.rows.specs.Bits.{bit}
use Rattle.rows.specs.Rows.{in_product}

-- The coordinates of bit x of row r.
abbrev pub node_at : ℕ → ℕ → Coords
node_at r x = record { x = x; y = r % 16; z = r / 16 }

-- The 256 rows `new` are the rows `old` less the nodes of f.
pub record Less (f : ℕ → ℕ → Bool) (old new : List ℕ) : Type 0 where
  pub long : length new ≡ length old
  pub bits : length old ≡ 256 → (r x : ℕ) → r < 256 → x < 16 → bit (get_or new r 0) x ≡ (bit (get_or old r 0) x && not (f r x))

-- The rows are those of the nodes of f.
pub record Are (f : ℕ → ℕ → Bool) (rows : List ℕ) : Type 0 where
  pub long : length rows ≡ 256
  pub bits : (r x : ℕ) → r < 256 → x < 16 → bit (get_or rows r 0) x ≡ f r x

-- The nodes of a product of three sets of places, the bits of bx, by and bz.
unfoldable pub product : ℕ → ℕ → ℕ → ℕ → ℕ → Bool
product bx by bz r x = in_product bx by bz (node_at r x)
