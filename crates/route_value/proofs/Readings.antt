-- Laws of reading a route sheet.
use Prim.Native.Nat.{ℕ, ◌≤◌}
use native.Mathlib.Omega.{arith}
use mathlib.Core.Path.{◌≡◌}
use mathlib.Core.List.{List}
use lib.ListN.{length}
use Rattle.sheet.proofs.Records.{from_length}
use Rattle.plan.specs.Layout.{shape_of}
use Rattle.plan.specs.Checks.{Limits}
use Rattle.routes.specs.Layout.{source, entry_count, entry_at, entries_of, most_entries}
use Rattle.routes.specs.Checks.{sheet_error}
use Rattle.routes.proofs.Sheets.{accepted}
use Rattle.routes.proofs.Rising.{routed}

pub counted : (s : List ℕ) → length (entries_of s) ≡ entry_count s
unfolding entries_of
counted s = from_length (entry_at s) (entry_count s) 0

-- An accepted sheet has at most 4,095 entries.
pub few : (L : Limits) (p s : List ℕ) → sheet_error L p s ≡ 0 → entry_count s ≤ most_entries
few L p s h = omega (arith, (routed (shape_of p) (source s) (entries_of s) (accepted L p s h).routes).few, counted s)
