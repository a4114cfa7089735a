use Rattle.conversion.proofs.Legs.{adaptive_leg, one_leg}
use Rattle.conversion.proofs.keep.leg_kept.Goals as goal

pub returns-in-Adaptive : goal.returns-in-Adaptive
returns-in-Adaptive c = adaptive_leg _ _ _ _ c.in-Adaptive.is

pub returns-in-Deterministic : goal.returns-in-Deterministic
returns-in-Deterministic c = one_leg _ _ _ _ c.in-Deterministic.is c.requires _ c.coords.ensures _ c.odd_half.ensures
