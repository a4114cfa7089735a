use native.Mathlib.Omega.{arith}
use Rattle.search.proofs.RowLaws.{row_empty, row_none, row_found}
use Rattle.search.proofs.level.row.Goals as goal

pub returns-then-set-eq0 : goal.returns-then-set-eq0
returns-then-set-eq0 c = row_empty _ _ _ _ _ _ _ _ _ _ c.requires.le_weight.0.0 c.requires.le_weight.2 c.requires.by_index c.if-set-eq0.true

pub returns-in_default : goal.returns-in_default
returns-in_default c = row_none _ _ _ _ _ _ _ _ _ _ c.requires.le_weight.0.0 c.requires.le_weight.2 c.requires.by_index _ (rw c.in_default.is at c.level.ensures.first) (omega arith)

pub returns : goal.returns
returns c = row_found _ _ _ _ _ _ _ _ _ _ c.requires.le_weight.0.0 c.requires.le_weight.2 c.requires.by_index _ (rw c.in-Some.is at c.level.ensures.first) _ (rw c.in-Some.is at c.level.ensures.small) c.of_level-place.ensures _ (rw (← c.weighed.ensures.0) c.min.ensures)
