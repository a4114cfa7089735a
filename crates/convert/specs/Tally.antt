-- What is found in a file of sheets: how many were read, how many of them can be converted, and the one that a refusal names.
use Rattle.std.specs.Prelude.{ℕ, zero, suc, cond, List, eqb, Option, Some, None}
use Rattle.std.specs.declared.ops.ControlFlow.{ControlFlow}
use Rattle.std.specs.declared.ops.ControlFlow.TheVariants.{Continue, Break}
use Rattle.numbers.specs.Numbers.{wrong_route_sheet, entry_not_kept}
use Rattle.numbers.specs.declared.Refusal.{Refusal}
use Rattle.numbers.specs.declared.Refusal.TheVariants.{WrongRouteSheet, EntryNotKept}
use Rattle.numbers.specs.Refusals.{number, refusal}
use Rattle.program.specs.Count.{plus}
use Rattle.routes.specs.Layout.{first, source, kind_byte, entry_in}
use Rattle.convert.specs.declared.tally.Lost.{Lost}
use Rattle.convert.specs.declared.tally.Lost.TheVariants.{Declined, NotKept}
use Rattle.convert.specs.declared.tally.Tally.{Tally}

-- The version 1 sheet s at a place, declined for a cause, with 17 for its entry i: that entry's kind, as the sheet has it, and its destination.
unfoldable pub lost_at : ℕ → Refusal → ℕ → List ℕ → Lost
lost_at place r i s = cond (eqb (number r) entry_not_kept) (NotKept place (source s) (kind_byte first s i) (entry_in first s i).dest) (Declined place r)

-- The cause for which it is declined.
abbrev pub lost_refusal : Lost → Refusal
lost_refusal (Declined place r) = r
lost_refusal (NotKept place S kind dest) = EntryNotKept

abbrev pub no_tally : Tally
no_tally = record { sheets = 0; kept = 0; lost = None }

-- Which sheet a refusal names: the first that is declined, but for one with 13, which ends the job.
unfoldable pub named : Option Lost → ℕ → Refusal → ℕ → List ℕ → Lost
named None place r i s = lost_at place r i s
named (Some before) place r i s = cond (eqb (number r) wrong_route_sheet) (lost_at place r i s) before

-- The tally with the sheet s, which the converter declines with n, with 17 for its entry i; n is 0 where it does not.
unfoldable pub tallied : Tally → List ℕ → ℕ → ℕ → Tally
tallied t s zero i = record { sheets = plus t.sheets 1; kept = plus t.kept 1; lost = t.lost }
tallied t s (suc n) i = record { sheets = plus t.sheets 1; kept = t.kept; lost = Some (named t.lost (plus t.sheets 1) (refusal (suc n)) i s) }

-- At the end of the file. One without a sheet is 13.
unfoldable pub ended : Tally → Tally
ended t = cond (eqb t.sheets 0) (record { sheets = 0; kept = 0; lost = Some (Declined 0 WrongRouteSheet) }) t

-- The tally that goes on, or that ends.
abbrev pub tally_in : ControlFlow Tally Tally → Tally
tally_in (Continue t) = t
tally_in (Break t) = t
