use Rattle.sets.proofs.Legs.{any_met}
use Rattle.sets.proofs.leg.leg_clear.Goals as goal

pub returns : goal.returns
returns c = any_met _ _ _ _ _ _ c.meets_any.ensures
