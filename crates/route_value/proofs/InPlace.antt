-- A route sheet made in place, entry by entry.
use Prim.Native.Nat.{ℕ, zero, suc, ◌+◌, ◌*◌, ◌≤◌, ◌<◌}
use native.Mathlib.Omega.{arith}
use mathlib.Core.Path.{◌≡◌, refl, sym, ap, ◌∙◌}
use mathlib.Core.List.{List, [], ◌∷◌, ◌++◌}
use lib.ListN.{length, take, drop, set, length-append, length-drop}
use lib.Seq.{sets, sets-eq, length-sets, take_at, take-add, length-take-le, drop-set-add}
use Rattle.std.specs.Prelude.{Result, Ok, Err}
use Rattle.numbers.specs.declared.Refusal.{Refusal}
use Rattle.numbers.specs.declared.Refusal.TheVariants.{WrongRouteSheet}
use Rattle.numbers.specs.Refusals.{answer}
use Rattle.theory.proofs.Cases.{by_le}
use Rattle.sheet.proofs.Outputs.{Put, room, no_room}
use Rattle.sheet.specs.Output.{room_error, written, out_after}
use Rattle.sheet.specs.Records.{records_bytes}
use Rattle.routes.specs.declared.layout.Entry.{Entry}
use Rattle.routes.specs.Layout as Layout
use Rattle.routes.specs.Layout.{entry_form, entries_at, entry_place, most_entries, most_bytes}
use Rattle.route_value.specs.Writing.{sheet_bytes}
use Rattle.route_value.specs.Steps.{put_head, put_entry}
use Rattle.route_value.specs.Making.{Holds, Added, PutMade}
use Rattle.route_value.proofs.Forms.{entry_row, head_take, head_past}

more : (es : List Entry) (e : Entry) → records_bytes entry_form (es ++ (e ∷ [])) ≡ records_bytes entry_form es ++ entry_form.bytes e
unfolding records_bytes
more [] e = refl
more (x ∷ es) e = ap (λ (l : List ℕ). entry_form.bytes x ++ l) (more es e)

-- A row of bytes that is put past the first n.
drop_row : (vs l : List ℕ) (n i : ℕ) → drop n (sets l (n + i) vs) ≡ sets (drop n l) i vs
drop_row [] l n i = refl
drop_row (a ∷ vs) l n i =
    let e : suc (n + i) ≡ n + suc i = omega arith in
    ap (λ (k : ℕ). drop n (sets (set l (n + i) a) k vs)) e ∙ drop_row vs (set l (n + i) a) n (suc i) ∙ ap (λ (x : List ℕ). sets x (suc i) vs) (drop-set-add n l i a)

take_row : (vs l : List ℕ) (i : ℕ) → i + length vs ≤ length l → take (i + length vs) (sets l i vs) ≡ take i l ++ vs
take_row vs l i h =
    let n : length (take i l ++ vs) ≡ i + length vs = length-append (take i l) vs ∙ omega (arith, length-take-le i l (omega arith)) in
    rw (sets-eq vs l i h) (take_at (take i l ++ vs) _ (i + length vs) n)

-- ---- the entries
pub none_held : (bytes : List ℕ) → most_bytes ≤ length bytes → Holds [] bytes
unfolding records_bytes
none_held bytes h = record { room = h; entries = refl }

pub added : (bytes after : List ℕ) (i : ℕ) (e : Entry) → after ≡ put_entry bytes i e → Added bytes i e after
added bytes after i e q es g n h =
    let vs = entry_form.bytes e in
    let rest = drop entries_at bytes in
    let k : after ≡ sets bytes (entry_place Layout.written i) vs = q ∙ entry_row bytes i e in
    let long : length after ≡ length bytes = ap length k ∙ length-sets bytes (entry_place Layout.written i) vs in
    let size : 7 * length (es ++ (e ∷ [])) ≡ 7 * i + 7 = omega (arith, length-append es (e ∷ [])) in
    let front : take (7 * i) rest ≡ records_bytes entry_form es = rw n at g.entries in
    let fits : 7 * i + 7 ≤ length rest = omega (arith, length-drop entries_at bytes, g.room) in
    record {
      room = omega (arith, g.room);
      entries =
          ap (λ (m : ℕ). take m (drop entries_at after)) size
          ∙ ap (take (7 * i + 7)) (ap (drop entries_at) k ∙ drop_row vs bytes entries_at (7 * i))
          ∙ take_row vs rest (7 * i) fits
          ∙ ap (λ (l : List ℕ). l ++ vs) front
          ∙ sym (more es e);
    }

-- Past the entries of a sheet, or of the bytes, nothing is put.
pub no_entry_law : (bytes : List ℕ) (i : ℕ) (e : Entry) → most_entries ≤ i → Added bytes i e bytes
no_entry_law bytes i e m es g n h = absurd (omega arith)

pub no_place : (bytes : List ℕ) (i : ℕ) (e : Entry) → length bytes < entry_place Layout.written i + 7 → Added bytes i e bytes
no_place bytes i e m es g n h = absurd (omega (arith, g.room))

-- ---- the sheet
left : (k : ℕ) (s o t : List ℕ) (w : Result ℕ Refusal) (e : Refusal) → Put k s o w t → w ≡ Err e → t ≡ o
unfolding answer out_after
left zero s o t w e put r = let b = put.value in let z : ◌≡◌ {A = ℕ} 0 1 = cc in absurd (omega arith)
left (suc k) s o t w e put r = put.out_after

within : (s o : List ℕ) (w : Result ℕ Refusal) (n : ℕ) → w ≡ written (room_error 0 s o) s → w ≡ Ok n → n ≤ length o
unfolding answer
within s o w n put r = by_le (length s) (length o)
    (λ l. let b = rw (room 0 s o refl l) at put in let e : length s ≡ n = cc in omega arith)
    (λ l. let b = rw (no_room 0 s o refl l) at put in let z : ◌≡◌ {A = ℕ} 0 1 = cc in absurd (omega arith))

err_ok : {X : Type 0} (e : Refusal) (n : ℕ) → ◌≡◌ {A = Result ℕ Refusal} (Err e) (Ok n) → X
err_ok e n r = let z : ◌≡◌ {A = ℕ} 0 1 = cc in absurd (omega arith)

module _ (S count : ℕ) (bytes o : List ℕ) where
  -- More than a sheet, or than the bytes, hold.
  over : ((es : List Entry) → Holds es bytes → length es ≡ count → count ≤ most_entries → ⊥) → PutMade S count bytes o (Err WrongRouteSheet) o
  over none = record {
    many = λ _. (refl, refl);
    short = λ _. (refl, refl);
    refused = λ e r. refl;
    fits = λ n r. err_ok WrongRouteSheet n r;
    made = λ es g n m. absurd (none es g n m);
    number = λ es g n m. absurd (none es g n m);
  }

  pub too_many : most_entries < count → PutMade S count bytes o (Err WrongRouteSheet) o
  too_many h = over (λ es g n m. omega arith)

  pub too_short : length bytes < entry_place Layout.written count → PutMade S count bytes o (Err WrongRouteSheet) o
  too_short h = over (λ es g n m. omega (arith, g.room))

  module _ (head : List ℕ) (q : head ≡ put_head bytes S count) where
    front : (es : List Entry) → Holds es bytes → length es ≡ count → take (entry_place Layout.written count) head ≡ sheet_bytes S es
    unfolding sheet_bytes
    front es g n =
        let k : take (7 * count) (drop entries_at bytes) ≡ records_bytes entry_form es = rw n at g.entries in
        ap (take (entry_place Layout.written count)) q
        ∙ take-add entries_at (7 * count) (put_head bytes S count)
        ∙ rw (head_take bytes S count (omega (arith, g.room)), head_past bytes S count entries_at (omega arith), k, n)

    pub whole_made :
        (w : Result ℕ Refusal) (t : List ℕ) → count ≤ most_entries → entry_place Layout.written count ≤ length bytes →
        (let s = take (entry_place Layout.written count) head in Put (room_error 0 s o) s o w t) → PutMade S count bytes o w t
    whole_made w t m b put =
        let s = take (entry_place Layout.written count) head in
        record {
          many = λ h. absurd (omega arith);
          short = λ h. absurd (omega arith);
          refused = λ e r. left (room_error 0 s o) s o t w e put r;
          fits = λ n r. within s o w n put.value r;
          made = λ es g n _. (rw (front es g n) at put.value, rw (front es g n) at put.out_after);
          number = λ es g n _. rw (front es g n) at put.number;
        }
