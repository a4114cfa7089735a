use mathlib.Core.Path.{sym, ◌∙◌}
use Rattle.search.proofs.AllVias.{unasked}
use Rattle.search.proofs.best.best_via.Goals as goal

pub returns-else-is_askable : goal.returns-else-is_askable
returns-else-is_askable c = unasked _ _ _ _ _ _ _ _ (sym c.is_askable.ensures ∙ c.if-is_askable.false)
