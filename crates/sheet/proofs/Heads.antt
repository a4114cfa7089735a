-- What the first three bytes of a sheet say, as written and as read.
use Prim.Native.Nat.{ℕ, ◌+◌, ◌-◌, ◌≤◌, ◌<◌}
use native.Mathlib.Omega.{arith}
use mathlib.Core.Path.{◌≡◌, refl, ap, ◌∙◌}
use mathlib.Core.Bool.{true}
use mathlib.Core.List.{List, [], ◌∷◌, ◌++◌}
use lib.ListN.{length}
use lib.Dec.{eqb}
use borrow.Author.Tests.{eq-eqb, eqb-true}
use Rattle.theory.proofs.Bools.{and_true}
use Rattle.sheet.specs.Bytes.{byte, word, AreBytes, word_bytes}
use Rattle.sheet.specs.Head.{version, length_field, bytes_after, length_is, front_bytes}
use Rattle.sheet.proofs.Records.{word_of, upper_of, lower_of}

-- Where the length field is the bytes that follow and n, the sheet has three bytes more than n.
module _ (s : List ℕ) (n : ℕ) (h : length_is s n ≡ true) where
  pub length_field_law : length_field s ≡ n
  unfolding length_is
  length_field_law = eqb-true (length_field s) n (and_true (eqb (length_field s) (bytes_after s)) _ h).1

  pub length_sheet : 3 ≤ length s → length s ≡ 3 + n
  unfolding length_is bytes_after
  length_sheet b = omega (arith, length_field_law, eqb-true (length_field s) (length s - 3) (and_true (eqb (length_field s) (length s - 3)) _ h).0)

-- As written.
module _ (v n : ℕ) (rest : List ℕ) where
  pub version_read : version (front_bytes v n ++ rest) ≡ v
  unfolding version
  version_read = refl

  pub field_read : n < 65536 → length_field (front_bytes v n ++ rest) ≡ n
  unfolding length_field
  field_read h = word_of n h

  pub length_read : n < 65536 → length rest ≡ n → length_is (front_bytes v n ++ rest) n ≡ true
  unfolding length_is bytes_after
  length_read h e =
      let s = front_bytes v n ++ rest in
      rw (eq-eqb (length_field s) (length s - 3) (field_read h ∙ omega arith), eq-eqb (length_field s) n (field_read h))

-- The two bytes of a number that was read are those it was read from.
module _ (s : List ℕ) (bytes : AreBytes s) where
  pub word_same : (i : ℕ) → word_bytes (word s i) ≡ byte s i ∷ byte s (i + 1) ∷ []
  word_same i = rw (upper_of (byte s i) (byte s (i + 1)) (bytes i) (bytes (i + 1)), lower_of (byte s i) (byte s (i + 1)) (bytes (i + 1)))

  pub front_same : (v n : ℕ) → version s ≡ v → length_field s ≡ n → front_bytes v n ≡ byte s 0 ∷ byte s 1 ∷ byte s 2 ∷ []
  unfolding version length_field
  front_same v n ev en = rw (← ev, ← en) (ap (λ (l : List ℕ). byte s 0 ∷ l) (word_same 1))
