-- 'Route sheet': where its parts stand, by its format. Byte 0 is the version and bytes 1-2 the length of what follows, as in every sheet.
use Rattle.std.specs.Prelude.{ℕ, ◌+◌, ◌-◌, ◌*◌, ◌<◌, cond, List, [], ◌∷◌, eqb}
use Rattle.sheet.specs.Bytes.{byte, word, upper_byte, lower_byte, list_from}
use Rattle.sheet.specs.Head.{version}
use Rattle.sheet.specs.Records.{Form}
use Rattle.routes.specs.declared.layout.Format.{Format}
use Rattle.routes.specs.declared.layout.Entry.{Entry}
use Rattle.routes.specs.Kinds.{from_old}

-- What a version lays down: its byte, and how many vias an entry holds. Versions 1 and 2 have one layout. Version 1, document 01's, is read by the converter
-- alone.
abbrev pub one_via : ℕ → Format
one_via v = record { version = v; vias = 1 }

abbrev pub first : Format
first = one_via 1

abbrev pub second : Format
second = one_via 2

abbrev pub third : Format
third = record { version = 3; vias = 2 }

-- The format in which a sheet is read, by its byte 0. Check 13 declines a sheet whose version is not its format's own.
unfoldable pub format_by : ℕ → Format
format_by v = cond (eqb v 2) second third

abbrev pub format_of : List ℕ → Format
format_of s = format_by (version s)

-- The format that is written.
abbrev pub written : Format
written = third

-- After the length field source (two bytes), entry count (two).
unfoldable pub source : List ℕ → ℕ
source s = word s 3

unfoldable pub entry_count : List ℕ → ℕ
entry_count s = word s 5

-- Then the entries, from byte 7 on.
abbrev pub entries_at : ℕ
entries_at = 7

-- Destination (two), kind (one), vias (two each): five bytes an entry of one via, seven of two.
abbrev pub entry_size : Format → ℕ
entry_size F = 3 + 2 * F.vias

-- Where entry number i stands, from 0, and its kind byte.
abbrev pub entry_place : Format → ℕ → ℕ
entry_place F i = entries_at + entry_size F * i

unfoldable pub kind_byte : Format → List ℕ → ℕ → ℕ
kind_byte F s i = byte s (entry_place F i + 2)

-- An entry has the kind of version 3, whatever its format: entries of one via have document 01's kinds, and no second via.
unfoldable pub kind_in : Format → ℕ → ℕ
kind_in F k = cond (eqb F.vias 1) (from_old k) k

unfoldable pub second_via : Format → List ℕ → ℕ → ℕ
second_via F s at = cond (eqb F.vias 1) 0 (word s (at + 5))

abbrev pub entry_read : Format → List ℕ → ℕ → Entry
entry_read F s at = record { dest = word s at; kind = kind_in F (byte s (at + 2)); via = word s (at + 3); second = second_via F s at }

-- Entry number i in a format, and in the sheet's own.
abbrev pub entry_in : Format → List ℕ → ℕ → Entry
entry_in F s i = entry_read F s (entry_place F i)

unfoldable pub entry_at : List ℕ → ℕ → Entry
entry_at s i = entry_in (format_of s) s i

-- All of them, likewise.
abbrev pub entries_in : Format → List ℕ → List Entry
entries_in F s = list_from (entry_in F s) 0 (entry_count s)

unfoldable pub entries_of : List ℕ → List Entry
entries_of s = list_from (entry_at s) 0 (entry_count s)

-- The length of what follows, with this many entries.
abbrev pub size_after : Format → ℕ → ℕ
size_after F count = entries_at - 3 + entry_size F * count

-- How an entry is written.
abbrev pub entry_form : Form Entry
entry_form = record {
  size = entry_size written;
  read = entry_read written;
  bytes = λ e. upper_byte e.dest ∷ lower_byte e.dest ∷ e.kind ∷ upper_byte e.via ∷ lower_byte e.via ∷ upper_byte e.second ∷ lower_byte e.second ∷ [];
}

-- What stands past the entries of an array, and how many a sheet has at most: one for each node but the source.
abbrev pub no_entry : Entry
no_entry = record { dest = 0; kind = 0; via = 0; second = 0 }

abbrev pub most_entries : ℕ
most_entries = 4095

-- The bytes of the largest sheet that is written.
abbrev pub most_bytes : ℕ
most_bytes = entries_at + entry_size written * most_entries

-- The numbers that a sheet holds in two bytes fit them, as the code's u16 do.
pub record EntryFits (e : Entry) : Type 0 where
  pub dest : e.dest < 65536
  pub via : e.via < 65536
  pub second : e.second < 65536
