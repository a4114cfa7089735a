use mathlib.Core.Path.{sym, ◌∙◌}
use Rattle.search.proofs.Clip.{rows_fit}
use Rattle.search.proofs.Checked.{passed_number, refused_number}
use Rattle.second_via.proofs.Keys.{wrong_shape, short_run, none_least, least_is}
use Rattle.second_via.proofs.least.least.Goals as goal
use Rattle.second_via.proofs.least.least.Goals.{then-is_err-via-then-is_err, then-is_err-via-else-is_err+then-not-has_rows}

pub returns-then-is_err-clause-first : goal.returns-then-is_err-clause-first
returns-then-is_err-clause-first c =
    elim c.then-is_err.branch [
      | then-is_err-via-then-is_err w ↦ wrong_shape _ _ _ _ _ _ _ _ _ (refused_number _ _ c.check.ensures (sym c.is_err.ensures.value ∙ w.if-is_err.true))
      | then-is_err-via-else-is_err+then-not-has_rows w ↦ short_run _ _ _ _ _ _ _ _ _ (passed_number _ _ c.check.ensures (sym c.is_err.ensures.value ∙ w.if-is_err.false)) (sym w.has_rows.ensures ∙ w.if-not-has_rows.true)
    ]

pub space-found-requires : goal.space-found-requires
space-found-requires c = (passed_number _ _ c.check.ensures (sym c.is_err.ensures.value ∙ c.if-is_err.false), rows_fit _ _ _ (sym c.has_rows.ensures ∙ c.if-not-has_rows.false))

pub returns-then-known-found-clause-first : goal.returns-then-known-found-clause-first
returns-then-known-found-clause-first c = none_least _ _ _ _ _ _ _ _ (passed_number _ _ c.check.ensures (sym c.is_err.ensures.value ∙ c.if-is_err.false)) (sym c.has_rows.ensures ∙ c.if-not-has_rows.false) _ _ c.space-found.ensures c.if-known-found.true

pub returns-clause-first : goal.returns-clause-first
returns-clause-first c = least_is _ _ _ _ _ _ _ _ (passed_number _ _ c.check.ensures (sym c.is_err.ensures.value ∙ c.if-is_err.false)) (sym c.has_rows.ensures ∙ c.if-not-has_rows.false) _ _ c.space-found.ensures c.if-known-found.false
