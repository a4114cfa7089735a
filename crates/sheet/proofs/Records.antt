-- Laws of numbers and records in bytes.
use Prim.Native.Nat.{ℕ, zero, suc, ◌+◌, ◌*◌, ◌-◌, ◌/◌, ◌≤◌, ◌<◌}
use native.Mathlib.Numerals.{add-one}
use native.Mathlib.Omega.{arith}
use mathlib.Core.Path.{◌≡◌, refl, sym, ap, ◌∙◌}
use mathlib.Core.Bool.{Bool, true, ◌&&◌}
use mathlib.Core.List.{List, [], ◌∷◌, ◌++◌}
use lib.ListN.{length, get_or, set, take, drop, get_or-eq_default}
use lib.Dec.{ltb}
use lib.Seq.{set_out, ext_get_or, get_or-take, length-take-le, drop-cons}
use borrow.Author.Tests.{ltb-true}
use Rattle.theory.proofs.Bools.{and_true}
use Rattle.sheet.specs.Bytes.{byte, AreBytes, word, upper_byte, lower_byte, put_word, list_from, array_of}

-- Past the end.
module _ (s : List ℕ) (i : ℕ) (h : length s ≤ i) where
  pub byte_past : byte s i ≡ 0
  byte_past = get_or-eq_default s 0 h

  pub word_past : word s i ≡ 0
  word_past = rw (byte_past, get_or-eq_default s 0 {n = i + 1} (omega arith))

  pub put_past : (b : ℕ) → s ≡ set s i b
  put_past b = sym (set_out s i b h)

  pub put_word_past : (n : ℕ) → s ≡ put_word s i n
  put_word_past n = rw (set_out s i (upper_byte n) h) (sym (set_out s (i + 1) (lower_byte n) (omega arith)))

-- A number is the two bytes it is written as.
pub word_of : (n : ℕ) → n < 65536 → upper_byte n * 256 + lower_byte n ≡ n
word_of n h = omega arith

-- The two bytes of a number are those it was read from.
pub upper_of : (a b : ℕ) → a < 256 → b < 256 → upper_byte (a * 256 + b) ≡ a
upper_of a b ha hb = let q : (a * 256 + b) / 256 ≡ a = omega arith in rw q (omega arith)

pub lower_of : (a b : ℕ) → b < 256 → lower_byte (a * 256 + b) ≡ b
lower_of a b hb = omega arith

pub word_below : (s : List ℕ) → AreBytes s → (i : ℕ) → word s i < 65536
word_below s small i = omega (arith, small i, small (i + 1))

-- Bytes by a test of each.
abbrev pub all_bytes : List ℕ → Bool
all_bytes [] = true
all_bytes (b ∷ s) = ltb b 256 && all_bytes s

pub are_bytes : (s : List ℕ) → all_bytes s ≡ true → AreBytes s
are_bytes [] h i = omega arith
are_bytes (b ∷ s) h zero = ltb-true b 256 (and_true (ltb b 256) _ h).0
are_bytes (b ∷ s) h (suc i) = are_bytes s (and_true (ltb b 256) _ h).1 i

module _ {A : Type 0} (f : ℕ → A) where
  -- One record, and those after it.
  pub from_cons : (i n : ℕ) → i < n → list_from f i (n - i) ≡ f i ∷ list_from f (i + 1) (n - (i + 1))
  unfolding list_from
  from_cons i n h =
      let e : n - i ≡ suc (n - (i + 1)) = omega arith in
      rw (e, add-one i)

  pub from_none : (i n : ℕ) → n ≤ i → list_from f i (n - i) ≡ []
  unfolding list_from
  from_none i n h =
      let e : n - i ≡ 0 = omega arith in
      rw e

  pub from_length : (n i : ℕ) → length (list_from f i n) ≡ n
  unfolding list_from
  from_length zero i = refl
  from_length (suc n) i = ap suc (from_length n (suc i))

  pub from_at : (n i k : ℕ) (d : A) → k < n → get_or (list_from f i n) k d ≡ f (i + k)
  unfolding list_from
  from_at zero i k d h = absurd (omega arith)
  from_at (suc n) i zero d h = ap f (omega arith)
  from_at (suc n) i (suc k) d h = from_at n (suc i) k d (omega arith) ∙ ap f (omega arith)

-- Records that two functions give alike.
pub from_same : {A : Type 0} (f g : ℕ → A) (n i : ℕ) → ((k : ℕ) → i ≤ k → k < i + n → f k ≡ g k) → list_from f i n ≡ list_from g i n
unfolding list_from
from_same f g zero i h = refl
from_same f g (suc n) i h = rw (h i (omega arith) (omega arith), from_same f g n (suc i) (λ k a b. h k (omega arith) (omega arith)))

-- A list is its elements.
module _ {A : Type 0} (d : A) where
  pub as_list : (l : List A) (i : ℕ) (f : ℕ → A) → ((k : ℕ) → k < length l → f (i + k) ≡ get_or l k d) → list_from f i (length l) ≡ l
  unfolding list_from
  as_list [] i f h = refl
  as_list (x ∷ l) i f h =
      let z : i ≡ i + 0 = omega arith in
      let q : f i ≡ x = ap f z ∙ h 0 (omega arith) in
      rw (q, as_list l (suc i) f (λ k b. ap f {y = i + suc k} (omega arith) ∙ h (suc k) (omega arith)))

  -- What an array of n holds: the records that it was made of.
  pub array_at : (l : List A) (n k : ℕ) → k < n → get_or (array_of d n l) k d ≡ get_or l k d
  unfolding array_of
  array_at l n k h = from_at (λ i. get_or l i d) n 0 k d h ∙ ap (λ (i : ℕ). get_or l i d) (omega arith)

  pub array_first : (l : List A) (n : ℕ) → length l ≤ n → list_from (λ i. get_or (array_of d n l) i d) 0 (length l) ≡ l
  array_first l n h = as_list l 0 (λ i. get_or (array_of d n l) i d) (λ k b. array_at l n (0 + k) (omega arith) ∙ ap (λ (i : ℕ). get_or l i d) (omega arith))

  pub array_from : (f : ℕ → A) (m n k : ℕ) → m ≤ n → k < m → get_or (array_of d n (list_from f 0 m)) k d ≡ f k
  array_from f m n k h b = array_at (list_from f 0 m) n k (omega arith) ∙ from_at f m 0 k d b ∙ ap f (omega arith)

-- The first n bytes; n bytes in a row, and those after them.
pub front : (s : List ℕ) (n : ℕ) → n ≤ length s → take n s ≡ list_from (byte s) 0 n
front s n h =
    ext_get_or 0 (take n s) (list_from (byte s) 0 n) (length-take-le n s h ∙ sym (from_length (byte s) n 0))
    (λ i b. let k : i < n = omega (arith, length-take-le n s h) in
    get_or-take n s i 0 k ∙ ap (byte s) (omega arith) ∙ sym (from_at (byte s) n 0 i 0 k))

pub row : (s : List ℕ) (n at : ℕ) → at + n ≤ length s → drop at s ≡ list_from (byte s) at n ++ drop (at + n) s
unfolding list_from
row s zero at h = let z : at + 0 ≡ at = omega arith in rw z
row s (suc n) at h =
    let z : suc at + n ≡ at + suc n = omega arith in
    drop-cons s at 0 (omega arith) ∙ ap (λ (l : List ℕ). byte s at ∷ l) (row s n (suc at) (omega arith) ∙ rw z)
