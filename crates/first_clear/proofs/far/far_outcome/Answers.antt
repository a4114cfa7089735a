use mathlib.Core.Path.{refl, sym, ◌∙◌}
use Rattle.second_via.proofs.Sums.{all_unclear}
use Rattle.search.proofs.Clip.{rows_fit}
use Rattle.notes.proofs.Knowing.{rows_missing}
use Rattle.first_clear.proofs.far.far_outcome.Goals as goal

pub returns-then-not-has_rows : goal.returns-then-not-has_rows
returns-then-not-has_rows c = λ p S D g. absurd (rows_missing _ _ _ _ c.has_rows.ensures c.if-not-has_rows.true g.both.room)

pub far_by-requires : goal.far_by-requires
far_by-requires c = rows_fit _ _ _ (sym c.has_rows.ensures ∙ c.if-not-has_rows.false)

pub returns : goal.returns
returns c = λ p S D g. c.far_by.ensures p S D _ (rw c.distance_at-length.ensures g) (c.store.ensures refl all_unclear)
