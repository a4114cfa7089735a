-- Numbers and records in the bytes of a sheet.
use Rattle.std.specs.Prelude.{ℕ, zero, suc, ◌+◌, ◌*◌, ◌/◌, ◌%◌, ◌<◌, List, [], ◌∷◌, get_or, set}

-- Byte i; 0 past the end.
abbrev pub byte : List ℕ → ℕ → ℕ
byte s i = get_or s i 0

-- Each is a byte, as in the code's slices.
abbrev pub AreBytes : List ℕ → Type 0
AreBytes s = (i : ℕ) → byte s i < 256

-- The two-byte number at byte i: big-endian, as every wider number here.
abbrev pub word : List ℕ → ℕ → ℕ
word s i = byte s i * 256 + byte s (i + 1)

-- The two bytes of a number below 65,536.
abbrev pub upper_byte : ℕ → ℕ
upper_byte n = n / 256 % 256

abbrev pub lower_byte : ℕ → ℕ
lower_byte n = n % 256

abbrev pub word_bytes : ℕ → List ℕ
word_bytes n = upper_byte n ∷ lower_byte n ∷ []

-- The bytes s with the number n at byte i.
abbrev pub put_word : List ℕ → ℕ → ℕ → List ℕ
put_word s i n = set (set s i (upper_byte n)) (i + 1) (lower_byte n)

-- The n records from number i on, where f gives the record of a number.
unfoldable pub list_from : {A : Type 0} → (ℕ → A) → ℕ → ℕ → List A
list_from f i zero = []
list_from f i (suc n) = f i ∷ list_from f (suc i) n

-- The records l as an array of n, with d past them.
unfoldable pub array_of : {A : Type 0} → A → ℕ → List A → List A
array_of d n l = list_from (λ i. get_or l i d) 0 n
