use mathlib.Core.Path.{sym, ◌∙◌}
use Rattle.second_via.proofs.Sums.{not_asked}
use Rattle.second_via.proofs.reach.store.Goals as goal

pub returns-else-is_askable : goal.returns-else-is_askable
returns-else-is_askable c = λ _ none w l. none w l ∙ not_asked _ _ _ _ _ _ _ _ _ _ (sym c.is_askable.ensures ∙ c.if-is_askable.false) w
