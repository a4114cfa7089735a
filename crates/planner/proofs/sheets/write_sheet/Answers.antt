use native.Mathlib.Omega.{arith}
use mathlib.Core.Path.{refl, sym}
use mathlib.Core.Logic.{inl}
use Rattle.std.proofs.lemmas.Result.{err_from_is_err_and}
use Rattle.planner.proofs.Writing.{sheet_refused, sheet_put}
use Rattle.planner.proofs.sheets.write_sheet.Goals as goal

pub returns-in_err-check_source : goal.returns-in_err-check_source
returns-in_err-check_source c = let p = err_from_is_err_and c.from_residual.result c.from_residual.ensures.1 in rw (p.1, p.2) (sheet_refused _ _ _ _ c.in_err-check_source.ensures)

pub planned-count-requires : goal.planned-count-requires
planned-count-requires c = record { source_value = sym c.in_ok-check_source.ensures; most_bytes_in_bounds = omega arith }

pub returns : goal.returns
returns c = sheet_put _ _ _ (sym c.in_ok-check_source.ensures) _ _ (c.planned-count.ensures.held (inl refl)) c.planned-count.ensures.many _ _ c.put_made.ensures
