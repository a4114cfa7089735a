-- The bytes of a route sheet that is written, from routes and from a sheet of either version, in the format that is written.
use Rattle.std.specs.Prelude.{ℕ, List, ◌∷◌, ◌++◌, length, get_or}
use Rattle.sheet.specs.Bytes.{upper_byte, lower_byte, word_bytes, list_from}
use Rattle.sheet.specs.Head.{front_bytes}
use Rattle.sheet.specs.Records.{records_bytes}
use Rattle.sheet.specs.Output.{room_error}
use Rattle.plan.specs.Checks.{Limits}
use Rattle.routes.specs.declared.layout.Entry.{Entry}
use Rattle.routes.specs.Layout.{written, entry_form, size_after, no_entry, source, entries_of}
use Rattle.routes.specs.Checks.{sheet_error}
use Rattle.route_value.specs.declared.reading.Routes.{Routes}

-- Version, length of what follows, source and entry count.
unfoldable pub head_bytes : ℕ → ℕ → List ℕ
head_bytes S n = front_bytes written.version (size_after written n) ++ (upper_byte S ∷ lower_byte S ∷ word_bytes n)

-- The sheet from the source S with these entries.
unfoldable pub sheet_bytes : ℕ → List Entry → List ℕ
sheet_bytes S es = head_bytes S (length es) ++ records_bytes entry_form es

-- The entries of routes: the first `count` of the array.
unfoldable pub route_entries : Routes → List Entry
route_entries r = list_from (λ i. get_or r.entries i no_entry) 0 r.count

unfoldable pub sheet_of : Routes → List ℕ
sheet_of r = sheet_bytes r.source (route_entries r)

-- The sheet of routes: what a check declines it with, then 12.
abbrev pub write_error : Limits → List ℕ → List ℕ → List ℕ → ℕ
write_error L p s o = room_error (sheet_error L p s) s o

-- A sheet written again: the same source and entries, of either version.
unfoldable pub rewritten : List ℕ → List ℕ
rewritten s = sheet_bytes (source s) (entries_of s)

-- Writing back a sheet checks as its reading does, then 12, by the size written.
abbrev pub back_error : Limits → List ℕ → List ℕ → List ℕ → ℕ
back_error L p s o = room_error (sheet_error L p s) (rewritten s) o
