use Rattle.std.proofs.Common.{arith}
use Rattle.sheets.proofs.Walking.{begin, next, ended}
use Rattle.sheets.proofs.tally.Tally.add_run.Goals as goal

pub loop-rest-init : goal.loop-rest-init
loop-rest-init c = begin _ _

pub loop-rest-preserved : goal.loop-rest-preserved
loop-rest-preserved c = next _ _ _ _ c.loop-rest.invariant (grind arith) _ c.first_size.ensures.value _ c.split_at.ensures.front _ c.split_at.ensures.back _ c.add-sum.ensures

pub returns : goal.returns
returns c = ended _ _ _ _ c.loop-rest.invariant (grind arith)
