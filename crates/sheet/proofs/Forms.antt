-- Records of a fixed size: what is written is read back, and what is read is written as the same bytes.
use Prim.Native.Nat.{ℕ, zero, suc, ◌+◌, ◌*◌, ◌<◌}
use native.Mathlib.Nat.{mul-zero, mul-suc}
use native.Mathlib.Omega.{arith}
use mathlib.Core.Path.{◌≡◌, sym, ap, ◌∙◌}
use mathlib.Core.List.{List, [], ◌∷◌, ◌++◌}
use lib.ListN.{length, get_or, take, drop, length-append, take-append-drop, drop_of_length-le}
use Rattle.sheet.specs.Bytes.{byte, AreBytes, list_from}
use Rattle.sheet.specs.Records.{Form, record_at, records_bytes}
use Rattle.sheet.proofs.Records.{as_list, row}

-- A form whose records take their size in bytes, are read where they stand, and back from bytes as the same bytes. Of the records that fit.
pub record Lawful {A : Type 0} (F : Form A) (Fits : A → Type 0) : Type 0 where
  pub long : (x : A) → length (F.bytes x) ≡ F.size
  pub behind : (front s : List ℕ) (at : ℕ) → F.read (front ++ s) (length front + at) ≡ F.read s at
  pub back : (x : A) (s : List ℕ) → Fits x → F.read (F.bytes x ++ s) 0 ≡ x
  pub same : (s : List ℕ) → AreBytes s → (at : ℕ) → F.bytes (F.read s at) ≡ list_from (byte s) at F.size
  pub fits : (s : List ℕ) → AreBytes s → (at : ℕ) → Fits (F.read s at)

module _ {A : Type 0} (F : Form A) (Fits : A → Type 0) (law : Lawful F Fits) where
  pub records_length : (xs : List A) → length (records_bytes F xs) ≡ F.size * length xs
  unfolding records_bytes
  records_length [] = sym (mul-zero F.size)
  records_length (x ∷ xs) =
      length-append (F.bytes x) (records_bytes F xs) ∙ omega (arith, law.long x, records_length xs, mul-suc F.size (length xs))

  -- ---- what is written is read back
  module _ (d : A) where
    record_back : (xs : List A) (i : ℕ) → i < length xs → Fits (get_or xs i d) → F.read (records_bytes F xs) (F.size * i) ≡ get_or xs i d
    unfolding records_bytes
    record_back [] i h b = absurd (omega arith)
    record_back (x ∷ xs) zero h b = rw (mul-zero F.size) (law.back x (records_bytes F xs) b)
    record_back (x ∷ xs) (suc i) h b =
        let e : F.size * suc i ≡ length (F.bytes x) + F.size * i = omega (arith, law.long x, mul-suc F.size i) in
        rw e (law.behind (F.bytes x) (records_bytes F xs) (F.size * i)) ∙ record_back xs i (omega arith) b

    module _ (head : List ℕ) (at : ℕ) (e : length head ≡ at) (xs : List A) where
      pub record_read : (i : ℕ) → i < length xs → Fits (get_or xs i d) → record_at F at (head ++ records_bytes F xs) i ≡ get_or xs i d
      record_read i h b = rw (← e) (law.behind head (records_bytes F xs) (F.size * i)) ∙ record_back xs i h b

      pub records_read : ((i : ℕ) → i < length xs → Fits (get_or xs i d)) → list_from (record_at F at (head ++ records_bytes F xs)) 0 (length xs) ≡ xs
      records_read f =
          as_list d xs 0 (record_at F at (head ++ records_bytes F xs))
          (λ k b. record_read (0 + k) (omega arith) (f (0 + k) (omega arith)) ∙ ap (λ (i : ℕ). get_or xs i d) (omega arith))

  -- ---- what is read is written as the same bytes
  module _ (s : List ℕ) (bytes : AreBytes s) (at : ℕ) where
    tail_same : (n i : ℕ) → length s ≡ at + (F.size * i + F.size * n) → records_bytes F (list_from (record_at F at s) i n) ≡ drop (at + F.size * i) s
    unfolding records_bytes list_from
    tail_same zero i h = sym (drop_of_length-le s {i = at + F.size * i} (omega (arith, h, mul-zero F.size)))
    tail_same (suc n) i h =
        let here = at + F.size * i in
        let up : at + F.size * suc i ≡ here + F.size = omega (arith, mul-suc F.size i) in
        ap (λ (l : List ℕ). l ++ records_bytes F (list_from (record_at F at s) (suc i) n)) (law.same s bytes here)
        ∙ ap (λ (l : List ℕ). list_from (byte s) here F.size ++ l) (tail_same n (suc i) (omega (arith, h, mul-suc F.size i, mul-suc F.size n)) ∙ ap (λ (k : ℕ). drop k s) up)
        ∙ sym (row s F.size here (omega (arith, h, mul-suc F.size n)))

    pub records_same : (head : List ℕ) (n : ℕ) → head ≡ take at s → length s ≡ at + F.size * n → head ++ records_bytes F (list_from (record_at F at s) 0 n) ≡ s
    records_same head n e h =
        let z : at + F.size * 0 ≡ at = omega (arith, mul-zero F.size) in
        rw (e, tail_same n 0 (omega (arith, mul-zero F.size)), z) (take-append-drop at s)
