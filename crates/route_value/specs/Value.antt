-- The value of routes.
use Rattle.std.specs.Prelude.{ℕ, ◌<◌, List, length, get_or}
use Rattle.sheet.specs.Bytes.{array_of}
use Rattle.routes.specs.declared.layout.Entry.{Entry}
use Rattle.routes.specs.Layout.{EntryFits, no_entry, most_entries}
use Rattle.route_value.specs.declared.reading.Routes.{Routes}
use Rattle.route_value.specs.Writing.{route_entries}

-- The numbers that a sheet holds in two bytes fit them.
pub record Fits (r : Routes) : Type 0 where
  pub source : r.source < 65536
  pub count : r.count < 65536
  pub entries : (i : ℕ) → i < r.count → EntryFits (get_or r.entries i no_entry)

-- The routes from the source S with these entries, and zeros past them.
unfoldable pub routes_with : ℕ → List Entry → Routes
routes_with S es = record { source = S; count = length es; entries = array_of no_entry most_entries es }

-- The routes with zeros past their entries. What stands there is no entry.
unfoldable pub cleared : Routes → Routes
cleared r = record { source = r.source; count = r.count; entries = array_of no_entry most_entries (route_entries r) }
