use Rattle.conversion.specs.Keeping.{leg_kept}
use Rattle.conversion.proofs.Halves.{coords_is}
use Rattle.conversion.proofs.Legs.{one_leg}
use Rattle.conversion.proofs.keep.second_kept.Goals as goal

pub returns-in-Adaptive : goal.returns-in-Adaptive
unfolding leg_kept
returns-in-Adaptive c = rw c.in-Adaptive.is

pub returns-in-Deterministic : goal.returns-in-Deterministic
returns-in-Deterministic c = one_leg _ _ _ _ c.in-Deterministic.is c.requires.dest_value _ c.coords-in-Deterministic.ensures _ c.odd_half.ensures _ (coords_is _ _ c.requires.via_value _ c.coords.ensures)
