-- Reading a route sheet: an accepted sheet as a value, or the cause for which it is declined.
use Rattle.std.specs.Prelude.{ℕ, List, Result}
use Rattle.sheet.specs.Bytes.{array_of}
use Rattle.numbers.specs.declared.Refusal.{Refusal}
use Rattle.numbers.specs.Refusals.{answer}
use Rattle.routes.specs.declared.layout.Entry.{Entry}
use Rattle.routes.specs.Layout.{source, entry_count, entries_of, no_entry, most_entries}
use Rattle.route_value.specs.declared.reading.Routes.{Routes}

-- The entries as an array of 4,095, with zeros past them.
unfoldable pub entry_array : List ℕ → List Entry
entry_array s = array_of no_entry most_entries (entries_of s)

unfoldable pub routes_of : List ℕ → Routes
routes_of s = record { source = source s; count = entry_count s; entries = entry_array s }

-- The routes, or the cause with that number.
abbrev pub reading : ℕ → List ℕ → Result Routes Refusal
reading e s = answer e (routes_of s)
