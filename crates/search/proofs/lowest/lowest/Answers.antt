use mathlib.Core.Path.{sym, ◌∙◌}
use Rattle.shape.specs.declared.shape.Dim.TheVariants.{X, Y, Z}
use Rattle.shape.proofs.Shapes.{sound}
use Rattle.search.proofs.Seeking.{wrong_shape, short_run, cut}
use Rattle.search.proofs.Checked.{passed_number, refused_number}
use Rattle.search.proofs.Clip.{rows_fit}
use Rattle.search.proofs.lowest.lowest.Goals as goal
use Rattle.search.proofs.lowest.lowest.Goals.{then-is_err-via-then-is_err, then-is_err-via-else-is_err+then-not-has_rows}

pub returns-then-is_err-clause-first : goal.returns-then-is_err-clause-first
returns-then-is_err-clause-first c =
    elim c.then-is_err.branch [
      | then-is_err-via-then-is_err w ↦ wrong_shape _ _ _ _ _ _ _ (refused_number _ _ c.check.ensures (sym c.is_err.ensures.value ∙ w.if-is_err.true))
      | then-is_err-via-else-is_err+then-not-has_rows w ↦ short_run _ _ _ _ _ _ _ (passed_number _ _ c.check.ensures (sym c.is_err.ensures.value ∙ w.if-is_err.false)) (sym w.has_rows.ensures ∙ w.if-not-has_rows.true)
    ]

pub clip-requires : goal.clip-requires
clip-requires c = (sound _ (passed_number _ _ c.check.ensures (sym c.is_err.ensures.value ∙ c.if-is_err.false)) X).high

pub clip-requires-2 : goal.clip-requires-2
clip-requires-2 c = (sound _ (passed_number _ _ c.check.ensures (sym c.is_err.ensures.value ∙ c.if-is_err.false)) Y).high

pub clip-requires-3 : goal.clip-requires-3
clip-requires-3 c = (sound _ (passed_number _ _ c.check.ensures (sym c.is_err.ensures.value ∙ c.if-is_err.false)) Z).high

pub first_via-requires : goal.first_via-requires
first_via-requires c = record { shape_value = passed_number _ _ c.check.ensures (sym c.is_err.ensures.value ∙ c.if-is_err.false); at_in_bounds = rows_fit _ _ _ (sym c.has_rows.ensures ∙ c.if-not-has_rows.false); bx_bound = (c.clip.ensures.below, c.clip-2.ensures.below, c.clip-3.ensures.below) }

pub returns-clause-first : goal.returns-clause-first
returns-clause-first c = cut _ _ _ _ _ _ _ _ _ _ _ (passed_number _ _ c.check.ensures (sym c.is_err.ensures.value ∙ c.if-is_err.false)) (sym c.has_rows.ensures ∙ c.if-not-has_rows.false) c.clip.ensures c.clip-2.ensures c.clip-3.ensures c.first_via.ensures.first
