use Rattle.choice_number.specs.Told.{two_told}
use mathlib.Core.Path.{refl}
use Rattle.choice_number.proofs.read.by_two.Goals as goal

pub returns : goal.returns
unfolding two_told
returns c = rw (c.via_in.ensures, c.mode.ensures, c.mode-2.ensures, c.mode-3.ensures, c.det.ensures.0, c.det-2.ensures.0) refl
