-- What every sheet begins with: its version, and the length of what follows.
use Rattle.std.specs.Prelude.{ℕ, ◌-◌, Bool, ◌&&◌, List, ◌∷◌, length, eqb}
use Rattle.sheet.specs.Bytes.{byte, word, word_bytes}

-- Byte 0: version.
unfoldable pub version : List ℕ → ℕ
version s = byte s 0

-- Bytes 1-2: length of all that follows.
unfoldable pub length_field : List ℕ → ℕ
length_field s = word s 1

unfoldable pub bytes_after : List ℕ → ℕ
bytes_after s = length s - 3

-- The length field is the bytes that follow, and n.
unfoldable pub length_is : List ℕ → ℕ → Bool
length_is s n = eqb (length_field s) (bytes_after s) && eqb (length_field s) n

-- These three bytes, of a version and a length.
abbrev pub front_bytes : ℕ → ℕ → List ℕ
front_bytes v n = v ∷ word_bytes n
