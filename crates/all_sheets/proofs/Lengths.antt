-- How long a planned sheet is.
use Prim.Native.Nat.{ℕ, ◌≤◌}
use native.Mathlib.Omega.{arith}
use mathlib.Core.Path.{◌≡◌}
use mathlib.Core.List.{List}
use lib.ListN.{length}
use Rattle.machine.specs.Number.{node_count}
use Rattle.plan.specs.Layout.{shape_of}
use Rattle.plan.specs.Checks.{large}
use Rattle.routes.specs.Layout.{most_bytes}
use Rattle.routes.proofs.Sheets.{accepted}
use Rattle.route_value.proofs.Writings.{sheet_length}
use Rattle.planned_sheet.specs.Sheet.{source_error, entries_from, planned_sheet}
use Rattle.planned_sheet.proofs.Planning.{source_of, sheet_few, sheet_accepted}

module _ (p : List ℕ) (S : ℕ) (ok : source_error large p S ≡ 0) where
  pub sheet_long : 7 ≤ length (planned_sheet large p S)
  sheet_long = (accepted large p (planned_sheet large p S) (sheet_accepted large p S (source_of large p S ok))).head.long

  -- The longest sheet has 4,095 entries.
  pub sheet_fits : length (planned_sheet large p S) ≤ most_bytes
  unfolding planned_sheet
  sheet_fits = omega (arith, sheet_length S (entries_from large p S 0 (node_count (shape_of p))), sheet_few large p S (source_of large p S ok))
