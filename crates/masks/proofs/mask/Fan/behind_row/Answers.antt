use mathlib.Core.Path.{ap}
use Rattle.masks.specs.End.{begins}
use Rattle.masks.proofs.Columns.{behind_adaptive, behind_start, behind_target}
use Rattle.masks.proofs.mask.Fan.behind_row.Goals as goal

pub returns-in-Adaptive-default : goal.returns-in-Adaptive-default
returns-in-Adaptive-default c = behind_adaptive _ _ _ _ _ _ _ c.in-Adaptive-default.is-0 c.passes_row.ensures

pub returns-in-Deterministic-Start : goal.returns-in-Deterministic-Start
returns-in-Deterministic-Start c = behind_start _ _ _ _ _ _ _ c.in-Deterministic-Start.is-0 (ap begins c.in-Deterministic-Start.is-1) c.own_row.ensures

pub returns-in-Deterministic-Target : goal.returns-in-Deterministic-Target
returns-in-Deterministic-Target c = behind_target _ _ _ _ _ _ _ c.in-Deterministic-Target.is-0 (ap begins c.in-Deterministic-Target.is-1) c.other_row.ensures
