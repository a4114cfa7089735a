-- The bytes of a converted sheet: all but the version stay.
use Prim.Native.Nat.{ℕ, zero, suc, ◌+◌, ◌<◌}
use native.Mathlib.Omega.{arith}
use mathlib.Core.Path.{◌≡◌, refl, sym, ap, ◌∙◌}
use mathlib.Core.Bool.{true, ◌&&◌}
use mathlib.Core.List.{List, [], ◌∷◌}
use lib.ListN.{length, set}
use lib.Dec.{leb, eqb}
use Rattle.theory.proofs.Bools.{and_true}
use Rattle.std.specs.Prelude.{Ok, Err}
use Rattle.numbers.specs.declared.Refusal.{Refusal}
use Rattle.numbers.specs.Refusals.{number}
use Rattle.sheet.specs.Bytes.{byte, word}
use Rattle.sheet.specs.Head.{version, length_field, bytes_after, length_is}
use Rattle.sheet.specs.Output.{room_error, written, out_after}
use Rattle.sheet.proofs.Records.{from_same}
use Rattle.sheet.proofs.Outputs.{Put, refused}
use Rattle.plan.specs.Checks.{Limits}
use Rattle.routes.specs.Layout.{first, second, format_by, entries_at, entry_place, kind_in, second_via, entry_in, entries_in, source, entry_count, size_after}
use Rattle.routes.specs.Checks.{head_good, error_in, sheet_error}
use Rattle.conversion.specs.Converting.{converted}

pub same_length : (s : List ℕ) → 0 < length s → length (converted s) ≡ length s
unfolding converted
same_length [] h = absurd (omega arith)
same_length (b ∷ s) h = refl

-- ---- writing
module _ (s o : List ℕ) (some : 0 < length s) where
  same_room : room_error 0 (converted s) o ≡ room_error 0 s o
  unfolding room_error
  same_room = rw (same_length s some)

  changed : (s : List ℕ) → 0 < length s → set (out_after 0 s o) 0 2 ≡ out_after 0 (converted s) o
  unfolding out_after converted
  changed [] h = absurd (omega arith)
  changed (b ∷ s) h = refl

  -- From what the sheet itself is answered, and the output t that it leaves.
  module _ (t : List ℕ) (et : t ≡ out_after (room_error 0 s o) s o) where
    pub put_refused : (e : Refusal) → number e ≡ room_error 0 s o → Put (room_error 0 (converted s) o) (converted s) o (Err e) t
    put_refused e h =
        let z : t ≡ o = et ∙ sym (refused (room_error 0 s o) e s o h).out_after in
        rw z (refused (room_error 0 (converted s) o) e (converted s) o (h ∙ sym same_room))

    pub put_bytes : (n : ℕ) → Ok n ≡ written (room_error 0 s o) s → 0 ≡ room_error 0 s o → (u : List ℕ) → u ≡ set t 0 2 → Put (room_error 0 (converted s) o) (converted s) o (Ok n) u
    put_bytes n en h u eu =
        rw (same_room, ← h)
        (record { value = rw (same_length s some) (rw (← h) at en); number = refl; out_after = eu ∙ ap (λ (l : List ℕ). set l 0 2) (rw (← h) at et) ∙ changed s some })

-- ---- reading
byte_kept : (s : List ℕ) → 0 < length s → (i : ℕ) → 0 < i → byte (converted s) i ≡ byte s i
unfolding converted
byte_kept [] h i k = absurd (omega arith)
byte_kept (b ∷ s) h zero k = absurd (omega arith)
byte_kept (b ∷ s) h (suc i) k = refl

module _ (s : List ℕ) (h : 0 < length s) where
  word_kept : (i : ℕ) → 0 < i → word (converted s) i ≡ word s i
  word_kept i k = rw (byte_kept s h i k, byte_kept s h (i + 1) (omega arith))

  pub source_kept : source (converted s) ≡ source s
  unfolding source
  source_kept = word_kept 3 (omega arith)

  pub count_kept : entry_count (converted s) ≡ entry_count s
  unfolding entry_count
  count_kept = word_kept 5 (omega arith)

  -- Both versions have the same layout.
  entry_kept_law : (i : ℕ) → entry_in second (converted s) i ≡ entry_in first s i
  unfolding kind_in second_via
  entry_kept_law i =
      let at = entry_place first i in
      rw (word_kept at (omega arith), byte_kept s h (at + 2) (omega arith), word_kept (at + 3) (omega arith))

  pub entries_kept : entries_in second (converted s) ≡ entries_in first s
  entries_kept = rw count_kept (from_same (entry_in second (converted s)) (entry_in first s) (entry_count s) 0 (λ i a b. entry_kept_law i))

  length_kept : (n : ℕ) → length_is (converted s) n ≡ length_is s n
  unfolding length_is length_field bytes_after
  length_kept n = rw (word_kept 1 (omega arith), same_length s h)

  version_second : version (converted s) ≡ second.version
  unfolding version converted
  version_second = refl

  pub head_kept : head_good first s ≡ true → head_good second (converted s) ≡ true
  unfolding head_good
  head_kept g =
      let p = and_true (leb entries_at (length s) && eqb (version s) first.version) _ g in
      let q = and_true (leb entries_at (length s)) _ p.0 in
      rw (same_length s h, q.0, version_second, count_kept, length_kept (size_after first (entry_count s)), p.1)

  -- The sheet's own format is version 2's.
  pub own_second : (L : Limits) (p : List ℕ) → sheet_error L p (converted s) ≡ error_in second L p (converted s)
  unfolding sheet_error format_by version converted
  own_second L p = refl
