-- An entry in its seven bytes.
use Prim.Native.Nat.{ℕ, suc, ◌+◌, ◌≤◌, ◌<◌}
use native.Mathlib.Numerals.{add-one}
use native.Mathlib.Omega.{arith}
use mathlib.Core.Path.{◌≡◌, refl, ap, ◌∙◌}
use mathlib.Core.List.{List, [], ◌∷◌, ◌++◌}
use lib.ListN.{length, take, drop, set}
use lib.Seq.{sets, sets-eq, length-sets, get_or-append-add, drop-set-lt}
use Rattle.sheet.specs.Bytes.{byte, AreBytes, upper_byte, lower_byte, list_from}
use Rattle.sheet.specs.Records.{records_bytes}
use Rattle.sheet.proofs.Records.{word_of, upper_of, lower_of, word_below}
use Rattle.sheet.proofs.Forms.{Lawful}
use Rattle.sheet.proofs.Encoding.{Encoding, begin, onward, ended}
use Rattle.routes.specs.declared.layout.Entry.{Entry}
use Rattle.routes.specs.Layout.{EntryFits, written, entries_at, entry_place, kind_in, second_via, entry_form}
use Rattle.route_value.specs.Writing.{head_bytes}
use Rattle.route_value.specs.Steps.{put_head, put_entry}

behind : (front s : List ℕ) (at : ℕ) → entry_form.read (front ++ s) (length front + at) ≡ entry_form.read s at
unfolding kind_in second_via
behind front s at =
    let n = length front in
    let e₁ : n + at + 1 ≡ n + (at + 1) = omega arith in
    let e₂ : n + at + 2 ≡ n + (at + 2) = omega arith in
    let e₄ : n + at + 3 + 1 ≡ n + (at + 3 + 1) = omega arith in
    let e₃ : n + at + 3 ≡ n + (at + 3) = omega arith in
    let e₆ : n + at + 5 + 1 ≡ n + (at + 5 + 1) = omega arith in
    let e₅ : n + at + 5 ≡ n + (at + 5) = omega arith in
    rw (e₆, e₅, e₄, e₃, e₂, e₁, get_or-append-add front s at 0, get_or-append-add front s (at + 1) 0, get_or-append-add front s (at + 2) 0, get_or-append-add front s (at + 3) 0, get_or-append-add front s (at + 3 + 1) 0, get_or-append-add front s (at + 5) 0, get_or-append-add front s (at + 5 + 1) 0)

same : (s : List ℕ) → AreBytes s → (at : ℕ) → entry_form.bytes (entry_form.read s at) ≡ list_from (byte s) at 7
unfolding list_from kind_in second_via
same s bytes at =
    let e₂ : at + 2 ≡ suc (suc at) = omega arith in
    let e₄ : at + 3 + 1 ≡ suc (suc (suc (suc at))) = omega arith in
    let e₃ : at + 3 ≡ suc (suc (suc at)) = omega arith in
    let e₆ : at + 5 + 1 ≡ suc (suc (suc (suc (suc (suc at))))) = omega arith in
    let e₅ : at + 5 ≡ suc (suc (suc (suc (suc at)))) = omega arith in
    rw (upper_of (byte s at) (byte s (at + 1)) (bytes at) (bytes (at + 1)), lower_of (byte s at) (byte s (at + 1)) (bytes (at + 1)), upper_of (byte s (at + 3)) (byte s (at + 3 + 1)) (bytes (at + 3)) (bytes (at + 3 + 1)), lower_of (byte s (at + 3)) (byte s (at + 3 + 1)) (bytes (at + 3 + 1)), upper_of (byte s (at + 5)) (byte s (at + 5 + 1)) (bytes (at + 5)) (bytes (at + 5 + 1)), lower_of (byte s (at + 5)) (byte s (at + 5 + 1)) (bytes (at + 5 + 1)), e₆, e₅, e₄, e₃, e₂, add-one at)

pub lawful : Lawful entry_form EntryFits
unfolding kind_in second_via
lawful = record {
  long = λ e. refl;
  behind = behind;
  back = λ e s h. rw (word_of e.dest h.dest, word_of e.via h.via, word_of e.second h.second);
  same = same;
  fits = λ s bytes at. record { dest = word_below s bytes at; via = word_below s bytes (at + 3); second = word_below s bytes (at + 5) };
}

-- ---- a sheet made in place: its head and an entry are their bytes in a row
head_row : (l : List ℕ) (S n : ℕ) → put_head l S n ≡ sets l 0 (head_bytes S n)
unfolding put_head head_bytes
head_row l S n = refl

pub entry_row : (l : List ℕ) (i : ℕ) (e : Entry) → put_entry l i e ≡ sets l (entry_place written i) (entry_form.bytes e)
unfolding put_entry
entry_row l i e =
    let a = entry_place written i in
    let e₂ : a + 2 ≡ suc (suc a) = omega arith in
    let e₄ : a + 3 + 1 ≡ suc (suc (suc (suc a))) = omega arith in
    let e₃ : a + 3 ≡ suc (suc (suc a)) = omega arith in
    let e₆ : a + 5 + 1 ≡ suc (suc (suc (suc (suc (suc a))))) = omega arith in
    let e₅ : a + 5 ≡ suc (suc (suc (suc (suc a)))) = omega arith in
    rw (e₆, e₅, e₄, e₃, e₂, add-one a)

-- An entry stored byte by byte.
pub entry_stored :
    (l : List ℕ) (i : ℕ) (e : Entry) (a b c d x y : ℕ) → a ≡ upper_byte e.dest → b ≡ lower_byte e.dest → c ≡ upper_byte e.via → d ≡ lower_byte e.via →
    x ≡ upper_byte e.second → y ≡ lower_byte e.second →
    (let at = entry_place written i in set (set (set (set (set (set (set l at a) (at + 1) b) (at + 2) e.kind) (at + 3) c) (at + 4) d) (at + 5) x) (at + 6) y) ≡ put_entry l i e
unfolding put_entry
entry_stored l i e a b c d x y ea eb ec ed ex ey =
    let four : entry_place written i + 4 ≡ entry_place written i + 3 + 1 = omega arith in
    let six : entry_place written i + 6 ≡ entry_place written i + 5 + 1 = omega arith in
    rw (ea, eb, ec, ed, ex, ey, four, six)

pub head_length : (l : List ℕ) (S n : ℕ) → length (put_head l S n) ≡ length l
head_length l S n = ap length (head_row l S n) ∙ length-sets l 0 (head_bytes S n)

pub head_room : (l head : List ℕ) (S n k : ℕ) → head ≡ put_head l S n → k ≤ length l → k ≤ length head
head_room l head S n k e h = omega (arith, ap length e, head_length l S n)

pub head_take : (l : List ℕ) (S n : ℕ) → entries_at ≤ length l → take entries_at (put_head l S n) ≡ head_bytes S n
unfolding head_bytes
head_take l S n h = rw (head_row l S n, sets-eq (head_bytes S n) l 0 (omega arith))

-- What stands past a row of bytes is untouched.
drop_sets : (vs l : List ℕ) (i k : ℕ) → i + length vs ≤ k → drop k (sets l i vs) ≡ drop k l
drop_sets [] l i k h = refl
drop_sets (a ∷ vs) l i k h = drop_sets vs (set l i a) (suc i) k (omega arith) ∙ drop-set-lt k l i a (omega arith)

pub head_past : (l : List ℕ) (S n k : ℕ) → entries_at ≤ k → drop k (put_head l S n) ≡ drop k l
unfolding head_bytes
head_past l S n k h = ap (drop k) (head_row l S n) ∙ drop_sets (head_bytes S n) l 0 k (omega arith)

-- The loop that writes the entries behind the head: i of n are written, and what stands past the sheet is untouched.
pub record Encoded (n : ℕ) (f : ℕ → Entry) (head bytes : List ℕ) (i : ℕ) : Type 0 where
  pub made : Encoding entry_form lawful.long entries_at n f head bytes i
  pub past : drop (entry_place written n) bytes ≡ drop (entry_place written n) head

module _ (n : ℕ) (f : ℕ → Entry) (head : List ℕ) where
  pub first_entry : entry_place written n ≤ length head → Encoded n f head head 0
  first_entry h = record { made = begin entry_form lawful.long entries_at n f head h; past = refl }

  module _ (bytes : List ℕ) (i : ℕ) (g : Encoded n f head bytes i) where
    pub entry_room : i < n → entry_place written i + 7 ≤ length bytes
    entry_room h = omega (arith, g.made.room, g.made.long)

    pub entry_put : (e : Entry) (after : List ℕ) → e ≡ f i → after ≡ put_entry bytes i e → i < n → Encoded n f head after (i + 1)
    entry_put e after q p h = record {
      made = onward entry_form lawful.long entries_at n f head bytes i g.made e after q (p ∙ entry_row bytes i e) h;
      past = ap (drop (entry_place written n)) (p ∙ entry_row bytes i e) ∙ drop_sets (entry_form.bytes e) bytes (entry_place written i) (entry_place written n) (omega arith) ∙ g.past;
    }

    pub last_entry : n ≤ i → take (entry_place written n) bytes ≡ take entries_at head ++ records_bytes entry_form (list_from f 0 n)
    last_entry h = ended entry_form lawful.long entries_at n f head bytes i g.made h
