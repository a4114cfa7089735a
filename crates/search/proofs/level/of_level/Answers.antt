use native.Mathlib.Omega.{arith}
use Rattle.search.proofs.RowLaws.{first_bit, first_in, first_in_both, least_none, least_one, least_two}
use Rattle.search.proofs.level.of_level.Goals as goal

pub returns-then-two-ne0 : goal.returns-then-two-ne0
returns-then-two-ne0 c = least_none _ _ _ _ (first_in_both c.args.set _ _ _ (omega arith) c.if-two-ne0.true c.next_set.ensures)

pub returns-then-one-ne0 : goal.returns-then-one-ne0
returns-then-one-ne0 c = least_one _ _ _ _ _ c.if-two-ne0.false (first_in c.args.set _ _ (omega arith) c.if-one-ne0.true c.next_set-x.ensures) c.det_at.ensures.0

pub returns : goal.returns
returns c = least_two _ _ _ _ c.if-one-ne0.false (first_bit _ _ (omega arith) c.requires c.next_set-2.ensures)
