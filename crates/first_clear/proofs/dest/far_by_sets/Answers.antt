use Rattle.first_clear.proofs.Dests.{sets_reaching}
use Rattle.first_clear.proofs.dest.far_by_sets.Goals as goal

pub returns : goal.returns
returns c = λ p S g. c.far_outcome.ensures p S _ (sets_reaching p _ _ _ S _ _ _ _ _ _ g _ _ _ _ c.over.ensures c.near.ensures)
