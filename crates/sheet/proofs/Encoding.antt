-- The bytes of a sheet, made record by record.
use Prim.Native.Nat.{ℕ, suc, ◌+◌, ◌*◌, ◌-◌, ◌≤◌, ◌<◌}
use native.Mathlib.Nat.{mul-zero, mul-suc, mul-le-mul_left}
use native.Mathlib.Numerals.{add-one}
use native.Mathlib.Omega.{arith}
use mathlib.Core.Path.{◌≡◌, refl, sym, ap, ◌∙◌}
use mathlib.Core.List.{List, [], ◌++◌, append_assoc, append-nil}
use lib.ListN.{length, take, length-append}
use lib.Seq.{sets, sets-eq, length-sets, take_at, length-take-le}
use Rattle.sheet.specs.Bytes.{list_from}
use Rattle.sheet.specs.Records.{Form, records_bytes}
use Rattle.sheet.proofs.Records.{from_cons, from_none}

module _ {A : Type 0} (F : Form A) (sized : (x : A) → length (F.bytes x) ≡ F.size) (at : ℕ) where
  -- The place of record number i, and of the one after it.
  abbrev place : ℕ → ℕ
  place i = at + F.size * i

  next : (i : ℕ) → place (i + 1) ≡ place i + F.size
  next i = ap place (add-one i) ∙ omega (arith, mul-suc F.size i)

  put_take : (l : List ℕ) (i : ℕ) (x : A) → place i + F.size ≤ length l → take (place (i + 1)) (sets l (place i) (F.bytes x)) ≡ take (place i) l ++ F.bytes x
  put_take l i x h =
      let n : length (take (place i) l ++ F.bytes x) ≡ place (i + 1) = length-append (take (place i) l) (F.bytes x) ∙ omega (arith, length-take-le (place i) l (omega arith), sized x, next i) in
      rw (sets-eq (F.bytes x) l (place i) (omega (arith, sized x))) (take_at (take (place i) l ++ F.bytes x) _ (place (i + 1)) n)

  -- The loop: i of n records are written; those left make up the sheet.
  pub record Encoding (n : ℕ) (f : ℕ → A) (head bytes : List ℕ) (i : ℕ) : Type 0 where
    pub within : i ≤ n
    pub room : at + F.size * n ≤ length head
    pub long : length bytes ≡ length head
    pub rest : take (at + F.size * i) bytes ++ records_bytes F (list_from f i (n - i)) ≡ take at head ++ records_bytes F (list_from f 0 n)

  -- The bytes of the records from number i on.
  tail_cons : (f : ℕ → A) (i n : ℕ) → i < n → records_bytes F (list_from f i (n - i)) ≡ F.bytes (f i) ++ records_bytes F (list_from f (i + 1) (n - (i + 1)))
  unfolding records_bytes
  tail_cons f i n h = ap (records_bytes F) (from_cons f i n h)

  tail_none : (f : ℕ → A) (i n : ℕ) → n ≤ i → records_bytes F (list_from f i (n - i)) ≡ []
  unfolding records_bytes
  tail_none f i n h = ap (records_bytes F) (from_none f i n h)

  module _ (n : ℕ) (f : ℕ → A) (head : List ℕ) where
    pub begin : at + F.size * n ≤ length head → Encoding n f head head 0
    begin room =
        let z : n - 0 ≡ n = omega arith in
        let none : at + F.size * 0 ≡ at = omega (arith, mul-zero F.size) in
        record { within = omega arith; room = room; long = refl; rest = rw (z, none) }

    module _ (bytes : List ℕ) (i : ℕ) (g : Encoding n f head bytes i) where
      pub onward : (x : A) (after : List ℕ) → x ≡ f i → after ≡ sets bytes (at + F.size * i) (F.bytes x) → i < n → Encoding n f head after (i + 1)
      onward x after e q h =
          let left = records_bytes F (list_from f (i + 1) (n - (i + 1))) in
          let front = take (place i) bytes in
          let most : F.size * suc i ≤ F.size * n = mul-le-mul_left F.size (omega arith) in
          let fits : place i + F.size ≤ length bytes = omega (arith, g.long, g.room, mul-suc F.size i, most) in
          record {
            within = omega arith;
            room = g.room;
            long = ap length q ∙ length-sets bytes (place i) (F.bytes x) ∙ g.long;
            rest =
                ap (λ (l : List ℕ). l ++ left) (ap (take (place (i + 1))) q ∙ put_take bytes i x fits)
                ∙ append_assoc front (F.bytes x) left
                ∙ ap (λ (l : List ℕ). front ++ l) (ap (λ (y : A). F.bytes y ++ left) e ∙ sym (tail_cons f i n h))
                ∙ g.rest;
          }

      pub ended : n ≤ i → take (at + F.size * n) bytes ≡ take at head ++ records_bytes F (list_from f 0 n)
      ended h =
          let z : n ≡ i = omega (arith, g.within) in
          ap (λ (k : ℕ). take (place k) bytes) z
          ∙ sym (append-nil (take (place i) bytes))
          ∙ ap (λ (l : List ℕ). take (place i) bytes ++ l) (sym (tail_none f i n h))
          ∙ g.rest
