-- The code's own steps: a route sheet made in place, entry by entry.
use Rattle.std.specs.Prelude.{ℕ, ◌*◌, ◌≤◌, ◌<◌, ◌≡◌, List, [], ◌∷◌, ◌++◌, length, take, drop, Result, Ok, Err}
use Rattle.numbers.specs.declared.Refusal.{Refusal}
use Rattle.numbers.specs.declared.Refusal.TheVariants.{WrongRouteSheet}
use Rattle.numbers.specs.Refusals.{answer_number}
use Rattle.sheet.specs.Output.{room_error, written, out_after}
use Rattle.sheet.specs.Records.{records_bytes}
use Rattle.routes.specs.declared.layout.Entry.{Entry}
use Rattle.routes.specs.Layout.{entry_form, entry_place, entries_at, most_entries, most_bytes}
use Rattle.routes.specs.Layout as Layout
use Rattle.route_value.specs.Writing.{sheet_bytes}

-- Bytes with room for any sheet hold these entries, in the places of a sheet's first.
pub record Holds (es : List Entry) (bytes : List ℕ) : Type 0 where
  pub room : most_bytes ≤ length bytes
  pub entries : take (entry_form.size * length es) (drop entries_at bytes) ≡ records_bytes entry_form es

-- Entry number i is put behind those that the bytes hold.
abbrev pub Added : List ℕ → ℕ → Entry → List ℕ → Type 0
Added bytes i e after = (es : List Entry) → Holds es bytes → length es ≡ i → i < most_entries → Holds (es ++ (e ∷ [])) after

-- The answer w to putting the sheet of the entries that the bytes hold, and the output t afterwards: a refusal leaves it.
pub record PutMade (S count : ℕ) (bytes o : List ℕ) (w : Result ℕ Refusal) (t : List ℕ) : Type 0 where
  pub many : most_entries < count → (w ≡ Err WrongRouteSheet) × (t ≡ o)
  pub short : length bytes < entry_place Layout.written count → (w ≡ Err WrongRouteSheet) × (t ≡ o)
  pub refused : (e : Refusal) → w ≡ Err e → t ≡ o
  pub fits : (n : ℕ) → w ≡ Ok n → n ≤ length o
  pub made :
      (es : List Entry) → Holds es bytes → length es ≡ count → count ≤ most_entries →
      (w ≡ written (room_error 0 (sheet_bytes S es) o) (sheet_bytes S es)) × (t ≡ out_after (room_error 0 (sheet_bytes S es) o) (sheet_bytes S es) o)
  pub number : (es : List Entry) → Holds es bytes → length es ≡ count → count ≤ most_entries → answer_number w ≡ room_error 0 (sheet_bytes S es) o
