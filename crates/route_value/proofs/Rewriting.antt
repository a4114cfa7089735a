-- An accepted sheet, read or written again. Its entries are those of the sheet that is written again, of either version; of version 3 that is the same bytes.
use Prim.Native.Nat.{ℕ, ◌+◌, ◌<◌}
use native.Mathlib.Omega.{arith}
use mathlib.Core.Path.{◌≡◌, refl, sym, ap, ◌∙◌}
use mathlib.Core.List.{List, ◌∷◌, ◌++◌}
use lib.ListN.{take}
use lib.Dec.{eqb}
use Rattle.theory.proofs.Cases.{test}
use Rattle.sheet.specs.Bytes.{byte, AreBytes, upper_byte, lower_byte, word_bytes, list_from}
use Rattle.sheet.specs.Head.{version}
use Rattle.sheet.proofs.Records.{word_below, array_first, array_from, front}
use Rattle.sheet.proofs.Heads.{word_same, front_same}
use Rattle.sheet.proofs.Forms.{records_same}
use Rattle.plan.specs.Layout.{shape_of}
use Rattle.plan.specs.Checks.{Limits}
use Rattle.routes.specs.declared.layout.Format.{Format}
use Rattle.routes.specs.Layout.{EntryFits, format_of, format_by, written, source, entry_count, entries_at, entry_place, entry_form, second_via, entry_read, entry_at, entries_of, size_after, no_entry, most_entries}
use Rattle.routes.specs.Checks.{sheet_error}
use Rattle.routes.specs.Lookup.{lookup_error}
use Rattle.routes.specs.Says.{says}
use Rattle.routes.proofs.Sheets.{own_entries, Head, Accepted, accepted}
use Rattle.routes.proofs.Rising.{Routed, routed}
use Rattle.route_value.specs.Reading.{entry_array, routes_of}
use Rattle.route_value.specs.Writing.{head_bytes, sheet_bytes, route_entries, sheet_of, rewritten}
use Rattle.route_value.specs.Value.{Fits, routes_with, cleared}
use Rattle.route_value.proofs.Forms.{lawful}
use Rattle.route_value.proofs.Readings.{counted, few}
use Rattle.route_value.proofs.Writings.{source_read, entries_read, routes_read}
use Rattle.route_value.proofs.Written.{written_accepted}

module _ (L : Limits) (p s : List ℕ) (h : sheet_error L p s ≡ 0) where
  -- ---- read: the array that is read holds the entries
  entries_same : route_entries (routes_of s) ≡ entries_of s
  unfolding route_entries routes_of entry_array
  entries_same = rw (← counted s) (array_first no_entry (entries_of s) most_entries (omega (arith, counted s, few L p s h)))

  pub read_cleared : cleared (routes_of s) ≡ routes_of s
  unfolding cleared routes_of entry_array
  read_cleared = rw entries_same

  -- The sheet of what is read is the sheet written again.
  pub read_written : sheet_of (routes_of s) ≡ rewritten s
  unfolding sheet_of routes_of rewritten
  read_written = ap (sheet_bytes (source s)) entries_same

  -- ---- written again
  good : Accepted L p s
  good = accepted L p s h

  fine : Routed (shape_of p) (source s) (entries_of s)
  fine = routed (shape_of p) (source s) (entries_of s) good.routes

  pub rewritten_accepted : sheet_error L p (rewritten s) ≡ 0
  unfolding rewritten
  rewritten_accepted = written_accepted L p (source s) (entries_of s) good.plan good.routes

  pub rewritten_source : source (rewritten s) ≡ source s
  unfolding rewritten
  rewritten_source = source_read (source s) (entries_of s) fine.source

  pub rewritten_entries : entries_of (rewritten s) ≡ entries_of s
  unfolding rewritten
  rewritten_entries = let few = fine.few in entries_read (source s) (entries_of s) (omega arith) fine.fit

  -- It says the same of every destination.
  pub rewritten_says : (D : ℕ) → says L p (rewritten s) D ≡ says L p s D
  unfolding says lookup_error
  rewritten_says D = rw (rewritten_accepted, h, rewritten_entries)

  -- And is read as the same routes.
  own_routes : routes_with (source s) (entries_of s) ≡ routes_of s
  unfolding routes_with routes_of entry_array
  own_routes = rw (counted s)

  pub rewritten_read : routes_of (rewritten s) ≡ routes_of s
  unfolding rewritten
  rewritten_read = routes_read (source s) (entries_of s) fine.source fine.few fine.fit ∙ own_routes

-- What is written again is of version 3.
pub rewritten_version : (s : List ℕ) → version (rewritten s) ≡ written.version
unfolding rewritten sheet_bytes head_bytes version
rewritten_version s = refl

-- ---- a sheet of bytes
module _ (s : List ℕ) (bytes : AreBytes s) where
  head_same : Head written s → head_bytes (source s) (entry_count s) ≡ take entries_at s
  unfolding head_bytes source entry_count list_from
  head_same a =
      ap (λ (l : List ℕ). l ++ (upper_byte (source s) ∷ lower_byte (source s) ∷ word_bytes (entry_count s))) (front_same s bytes written.version (size_after written (entry_count s)) a.version a.field)
      ∙ ap (λ (l : List ℕ). byte s 0 ∷ byte s 1 ∷ byte s 2 ∷ l ++ word_bytes (entry_count s)) (word_same s bytes 3)
      ∙ ap (λ (l : List ℕ). byte s 0 ∷ byte s 1 ∷ byte s 2 ∷ byte s 3 ∷ byte s 4 ∷ l) (word_same s bytes 5)
      ∙ sym (front s entries_at a.long)

  own_third : version s ≡ written.version → format_of s ≡ written
  unfolding format_by
  own_third e = rw e

  -- Of version 3 the sheet written again is the sheet.
  pub same_sheet : (L : Limits) (p : List ℕ) → sheet_error L p s ≡ 0 → version s ≡ written.version → rewritten s ≡ s
  unfolding rewritten sheet_bytes
  same_sheet L p h e =
      let own = own_third e in
      let a : Head written s = rw own at (accepted L p s h).head in
      rw (counted s, own_entries s, own)
      (records_same entry_form EntryFits lawful s bytes entries_at (head_bytes (source s) (entry_count s)) (entry_count s) (head_same a) a.sized)

  -- What is read fits.
  second_fits : (F : Format) (at : ℕ) → second_via F s at < 65536
  unfolding second_via
  second_fits F at = test (eqb F.vias 1) (λ t. rw t (omega arith)) (λ t. rw t (word_below s bytes (at + 5)))

  entry_fits : (F : Format) (at : ℕ) → EntryFits (entry_read F s at)
  entry_fits F at = record { dest = word_below s bytes at; via = word_below s bytes (at + 3); second = second_fits F at }

  pub read_fits : (L : Limits) (p : List ℕ) → sheet_error L p s ≡ 0 → Fits (routes_of s)
  unfolding routes_of entry_array entries_of entry_at source
  read_fits L p h =
      let many = few L p s h in
      record {
        source = word_below s bytes 3;
        count = omega arith;
        entries = λ i b. rw (array_from no_entry (entry_at s) (entry_count s) most_entries i many b) (entry_fits (format_of s) (entry_place (format_of s) i));
      }
