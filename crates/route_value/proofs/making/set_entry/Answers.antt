use native.Mathlib.Omega.{arith}
use Rattle.route_value.proofs.InPlace.{no_entry_law, no_place, added}
use Rattle.route_value.proofs.making.set_entry.Goals as goal

pub returns-then-i-ge-MOST_ENTRIES : goal.returns-then-i-ge-MOST_ENTRIES
returns-then-i-ge-MOST_ENTRIES c = no_entry_law _ _ _ (omega arith)

pub returns-then-bytes-i : goal.returns-then-bytes-i
returns-then-bytes-i c = no_place _ _ _ (omega arith)

pub returns : goal.returns
returns c = added _ _ _ _ c.put_entry.ensures
