use Rattle.masks.proofs.Columns.{no_way}
use Rattle.masks.proofs.RowMasks.{takes_adaptive, takes_deterministic}
use Rattle.masks.proofs.mask.Fan.takes_row.Goals as goal

pub returns-then-self-c : goal.returns-then-self-c
returns-then-self-c c = no_way _ _ _ _ _ _ _ c.if-self-c.true

pub returns-in-Adaptive : goal.returns-in-Adaptive
returns-in-Adaptive c = takes_adaptive _ _ _ _ _ _ _ _ c.in-Adaptive.is c.crosses_row-row.ensures

pub returns-in-Deterministic : goal.returns-in-Deterministic
returns-in-Deterministic c = takes_deterministic _ _ _ _ _ _ _ _ _ _ c.args.self.now.few c.in-Deterministic.is c.args.self.now.goes c.crosses_row-row.ensures c.pick.ensures
