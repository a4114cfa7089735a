-- Writing the planned sheet of a source into lent bytes.
use Prim.Native.Nat.{ℕ, ◌≤◌}
use native.Mathlib.Omega.{arith}
use mathlib.Core.Path.{◌≡◌, sym}
use mathlib.Core.List.{List}
use lib.ListN.{length}
use Rattle.std.specs.Prelude.{Result, Err}
use Rattle.numbers.specs.declared.Refusal.{Refusal}
use Rattle.numbers.specs.Refusals.{number}
use Rattle.sheet.specs.Output.{room_error}
use Rattle.sheet.proofs.Outputs.{Put}
use Rattle.machine.specs.Number.{node_count}
use Rattle.plan.specs.Layout.{shape_of}
use Rattle.plan.specs.Checks.{large}
use Rattle.routes.proofs.Sheets.{put_declined}
use Rattle.routes.specs.Layout.{most_entries}
use Rattle.route_value.specs.Making.{Holds, PutMade}
use Rattle.planned_sheet.specs.Sheet.{source_error, entries_from, planned_sheet}
use Rattle.planned_sheet.proofs.Planning.{source_of, sheet_few}

-- What is answered, and what the output is afterwards.
abbrev pub Put_from : List ℕ → ℕ → List ℕ → Result ℕ Refusal → List ℕ → Type 0
Put_from p S o w t = Put (room_error (source_error large p S) (planned_sheet large p S) o) (planned_sheet large p S) o w t

pub refused_source : (p : List ℕ) (S : ℕ) (e : Refusal) (o : List ℕ) → number e ≡ source_error large p S → Put_from p S o (Err e) o
refused_source p S e o h = put_declined (source_error large p S) (planned_sheet large p S) o e h

-- The sheet of the entries that were planned from a sound source, put with no plan to check it by.
pub put_is :
    (p : List ℕ) (S count : ℕ) (bytes o : List ℕ) (w : Result ℕ Refusal) (t : List ℕ) → source_error large p S ≡ 0 →
    Holds (entries_from large p S 0 (node_count (shape_of p))) bytes → count ≡ length (entries_from large p S 0 (node_count (shape_of p))) → PutMade S count bytes o w t → Put_from p S o w t
unfolding planned_sheet
put_is p S count bytes o w t none held n put =
    let es = entries_from large p S 0 (node_count (shape_of p)) in
    let few : count ≤ most_entries = omega (arith, sheet_few large p S (source_of large p S none)) in
    let made = put.made es held (sym n) few in
    rw none (record { value = made.0; number = put.number es held (sym n) few; out_after = made.1 })
