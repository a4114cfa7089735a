-- Reading what was written: the sheet of a source and a list of entries.
use Prim.Native.Nat.{ℕ, ◌+◌, ◌≤◌, ◌<◌}
use native.Mathlib.Omega.{arith}
use mathlib.Core.Path.{◌≡◌, refl, sym, ap, ◌∙◌}
use mathlib.Core.Bool.{true}
use mathlib.Core.List.{List}
use lib.ListN.{length, get_or, take, drop, take-append-drop}
use lib.Seq.{take-append_seam}
use borrow.Author.Tests.{le-leb, eq-eqb}
use Rattle.sheet.specs.Bytes.{list_from}
use Rattle.sheet.specs.Head.{version, length_is}
use Rattle.sheet.specs.Output.{out_after}
use Rattle.sheet.proofs.Records.{word_of, from_length, as_list}
use Rattle.sheet.proofs.Heads.{version_read, length_read}
use Rattle.sheet.proofs.Forms.{records_length, record_read}
use Rattle.shape.specs.declared.shape.Shape.{Shape}
use Rattle.routes.specs.declared.layout.Entry.{Entry}
use Rattle.routes.specs.Layout.{EntryFits, format_of, format_by, written, source, entry_count, entries_at, entry_place, entry_form, entry_in, entry_at, entries_of, size_after, no_entry, most_entries}
use Rattle.routes.specs.Checks.{head_good, routes_good, good_in, sheet_good}
use Rattle.routes.proofs.Sheets.{own_entries}
use Rattle.routes.proofs.Rising.{AllFit}
use Rattle.route_value.specs.declared.reading.Routes.{Routes}
use Rattle.route_value.specs.Reading.{entry_array, routes_of}
use Rattle.route_value.specs.Writing.{head_bytes, sheet_bytes, route_entries, sheet_of, rewritten}
use Rattle.route_value.specs.Value.{routes_with}
use Rattle.route_value.specs.Steps.{put_head}
use Rattle.route_value.proofs.Forms.{lawful, head_take, head_past, Encoded, last_entry}

module _ (S : ℕ) (es : List Entry) where
  -- The sheet that is written.
  abbrev sheet : List ℕ
  sheet = sheet_bytes S es

  pub sheet_length : length sheet ≡ entry_place written (length es)
  unfolding sheet_bytes head_bytes
  sheet_length = omega (arith, records_length (entry_form) EntryFits lawful es)

  pub own_format : format_of sheet ≡ written
  unfolding version sheet_bytes head_bytes format_by
  own_format = refl

  pub source_read : S < 65536 → source sheet ≡ S
  unfolding source sheet_bytes head_bytes
  source_read h = word_of S h

  pub count_read : length es < 65536 → entry_count sheet ≡ length es
  unfolding entry_count sheet_bytes head_bytes
  count_read h = word_of (length es) h

  read_there : (i : ℕ) → i < length es → EntryFits (get_or es i no_entry) → entry_in written sheet i ≡ get_or es i no_entry
  unfolding sheet_bytes head_bytes
  read_there i h b = record_read (entry_form) EntryFits lawful no_entry (head_bytes S (length es)) entries_at refl es i h b

  pub entry_read_law : (i : ℕ) → i < length es → EntryFits (get_or es i no_entry) → entry_at sheet i ≡ get_or es i no_entry
  unfolding entry_at
  entry_read_law i h b = rw own_format (read_there i h b)

  pub entries_read : length es < 65536 → AllFit es → entries_of sheet ≡ es
  unfolding entries_of
  entries_read h f =
      ap (list_from (entry_at sheet) 0) (count_read h) ∙ all
    where
      all : list_from (entry_at sheet) 0 (length es) ≡ es
      all = as_list no_entry es 0 (entry_at sheet) (λ k b. entry_read_law (0 + k) (omega arith) (f (0 + k) (omega arith)) ∙ ap (λ (i : ℕ). get_or es i no_entry) (omega arith))

  pub head_good_law : length es ≤ most_entries → head_good written sheet ≡ true
  unfolding head_good sheet_bytes head_bytes
  head_good_law h =
      let n = size_after written (length es) in
      let lent : length_is sheet n ≡ true = length_read written.version n _ (omega arith) (omega (arith, records_length (entry_form) EntryFits lawful es)) in
      rw (le-leb entries_at (length sheet) (omega (arith, sheet_length)), eq-eqb (version sheet) written.version (version_read written.version n _), count_read (omega arith)) lent

  -- The sheet is accepted where its source and entries are.
  pub sheet_good_law : (m : Shape) → S < 65536 → length es ≤ most_entries → AllFit es → sheet_good m sheet ≡ routes_good m S es
  unfolding good_in
  sheet_good_law m a h f = rw (← (own_entries sheet), own_format, head_good_law h, source_read a, entries_read (omega arith) f)

  -- Its sheet, read, is the routes with these entries.
  pub routes_read : S < 65536 → length es ≤ most_entries → AllFit es → routes_of sheet ≡ routes_with S es
  unfolding routes_of entry_array routes_with
  routes_read a h f = rw (source_read a, count_read (omega arith), entries_read (omega arith) f)

-- ---- the sheet of routes
pub entries_count : (r : Routes) → length (route_entries r) ≡ r.count
unfolding route_entries
entries_count r = from_length (λ i. get_or r.entries i no_entry) r.count 0

pub sheet_size : (r : Routes) → length (sheet_of r) ≡ entry_place written r.count
unfolding sheet_of
sheet_size r = sheet_length r.source (route_entries r) ∙ ap (entry_place written) (entries_count r)

-- What is made entry by entry behind its head is the sheet, and what stands past it is untouched.
module _ (S n : ℕ) (entry : ℕ → Entry) (l head bytes : List ℕ) (i : ℕ) (e : head ≡ put_head l S n) (h : entry_place written n ≤ length l) where
  front : Encoded n entry head bytes i → n ≤ i → take (entry_place written n) bytes ≡ sheet_bytes S (list_from entry 0 n)
  unfolding sheet_bytes
  front g k = last_entry n entry head bytes i g k ∙ rw (e, head_take l S n (omega arith), from_length entry n 0)

  pub made : Encoded n entry head bytes i → n ≤ i → bytes ≡ out_after 0 (sheet_bytes S (list_from entry 0 n)) l
  unfolding out_after
  made g k =
      let at = entry_place written n in
      let past : drop at bytes ≡ drop at l = g.past ∙ ap (drop at) e ∙ head_past l S n at (omega arith) in
      let long : length (sheet_bytes S (list_from entry 0 n)) ≡ at = sheet_length S (list_from entry 0 n) ∙ ap (entry_place written) (from_length entry n 0) in
      sym (take-append-drop at bytes) ∙ rw (front g k, past, long)

pub front_whole : (r : Routes) (bytes l : List ℕ) → bytes ≡ out_after 0 (sheet_of r) l → take (entry_place written r.count) bytes ≡ sheet_of r
unfolding out_after
front_whole r bytes l h = rw (h, ← sheet_size r) (take-append_seam (sheet_of r) (drop (length (sheet_of r)) l))

pub again_size : (s : List ℕ) → length (rewritten s) ≡ entry_place written (entry_count s)
unfolding rewritten entries_of
again_size s = sheet_length (source s) (entries_of s) ∙ ap (entry_place written) (from_length (entry_at s) (entry_count s) 0)
