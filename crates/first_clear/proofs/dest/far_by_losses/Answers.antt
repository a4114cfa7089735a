use native.Mathlib.Omega.{arith}
use Rattle.first_clear.proofs.Dests.{far_ends, far_reaching}
use Rattle.first_clear.proofs.dest.far_by_losses.Goals as goal

pub returns : goal.returns
returns c = λ p S D g. c.far_outcome.ensures p S D (far_reaching p _ _ _ _ _ _ S D _ _ _ _ _ g _ _ _ _ c.over.ensures c.near-places.ensures _ (c.put_part.ensures.by_index p _ D _ (far_ends p _ _ _ _ _ _ S D _ _ _ _ _ g _ _ c.gather-masks.ensures c.gather-others.ensures) (omega arith)))
