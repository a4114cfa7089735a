use mathlib.Core.Path.{◌≡◌}
use Rattle.sheet.proofs.Fill.{Filling}
use Rattle.routes.specs.Layout.{entry_count, entry_at, no_entry, most_entries}
use Rattle.route_value.proofs.reading.entries_in.Given as goal

abbrev pub invariant-loop-i : goal.invariant-loop-i
invariant-loop-i l = (l.i-end ≡ entry_count l.sheet) × Filling no_entry (entry_at l.sheet) most_entries l.i-end l.entries l.i
