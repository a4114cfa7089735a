-- Records of a fixed size, one behind the other from a place in a sheet on.
use Rattle.std.specs.Prelude.{ℕ, ◌+◌, ◌*◌, ◌-◌, List, [], ◌∷◌, ◌++◌}

-- How a record stands in bytes: how many they are, the record that is read at a byte, and the bytes that are written.
pub record Form (A : Type 0) : Type 0 where
  pub size : ℕ
  pub read : List ℕ → ℕ → A
  pub bytes : A → List ℕ

-- Record number i, from 0, of those from byte `at` on.
abbrev pub record_at : {A : Type 0} → Form A → ℕ → List ℕ → ℕ → A
record_at F at s i = F.read s (at + F.size * i)

-- The length of what follows the length field, with n records from byte `at` on.
abbrev pub records_after : {A : Type 0} → Form A → ℕ → ℕ → ℕ
records_after F at n = at - 3 + F.size * n

unfoldable pub records_bytes : {A : Type 0} → Form A → List A → List ℕ
records_bytes F [] = []
records_bytes F (x ∷ xs) = F.bytes x ++ records_bytes F xs
