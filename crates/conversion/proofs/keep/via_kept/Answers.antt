use mathlib.Core.Path.{◌∙◌}
use Rattle.conversion.specs.Keeping.{leg_kept}
use Rattle.conversion.proofs.keep.via_kept.Goals as goal

pub returns-in-Adaptive : goal.returns-in-Adaptive
unfolding leg_kept
returns-in-Adaptive c = λ a q. c.second_kept.ensures ∙ rw c.in-Adaptive.is

pub returns-in-Deterministic : goal.returns-in-Deterministic
returns-in-Deterministic c = λ a q. c.both_kept.ensures a q ∙ rw c.in-Deterministic.is
