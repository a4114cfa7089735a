use mathlib.Core.Path.{ap}
use Rattle.masks.specs.End.{begins}
use Rattle.masks.proofs.RowMasks.{crosses_from, crosses_to}
use Rattle.masks.proofs.mask.Fan.crosses_row.Goals as goal

pub returns-in-Start : goal.returns-in-Start
returns-in-Start c = crosses_from _ _ _ _ _ _ _ _ (ap begins c.in-Start.is) c.between_row-row.ensures c.useful_row.ensures

pub returns-in-Target : goal.returns-in-Target
returns-in-Target c = crosses_to _ _ _ _ _ _ _ _ _ (ap begins c.in-Target.is) c.between_row-row.ensures c.useful.ensures c.pick.ensures
