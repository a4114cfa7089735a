use Rattle.conversion.proofs.Legs.{both_legs}
use Rattle.conversion.proofs.keep.both_kept.Goals as goal

pub returns : goal.returns
returns c = both_legs _ _ _ _ _ c.requires.via_value _ c.coords-place.ensures _ c.odd_half.ensures _ c.leg_kept.ensures _ c.both.ensures
