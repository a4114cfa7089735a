use native.Mathlib.Omega.{arith}
use Rattle.std.proofs.lemmas.Result.{err_from_is_err_and}
use Rattle.packet.proofs.Drops.{error_shape, error_many, error_rest}
use Rattle.packet.proofs.packet.Packet.check.Goals as goal

pub returns-in_err-check : goal.returns-in_err-check
returns-in_err-check c = let p = err_from_is_err_and c.from_residual.result c.from_residual.ensures.1 in rw (p.1, p.2) (error_shape _ _ _ c.in_err-check.ensures)

pub returns-then-self-gt-MOST_LEGS : goal.returns-then-self-gt-MOST_LEGS
returns-then-self-gt-MOST_LEGS c = error_many _ _ c.in_ok-check.ensures c.if-self-gt-MOST_LEGS.true

pub returns-then-either : goal.returns-then-either
returns-then-either c = rw c.if-either.true at (error_rest _ _ _ _ _ _ c.either.result c.in_ok-check.ensures (omega arith) c.node_count-nodes.ensures c.leg_outside.ensures c.either-named.ensures c.either-outside.ensures c.either.ensures)

pub returns : goal.returns
returns c = rw c.if-either.false at (error_rest _ _ _ _ _ _ c.either.result c.in_ok-check.ensures (omega arith) c.node_count-nodes.ensures c.leg_outside.ensures c.either-named.ensures c.either-outside.ensures c.either.ensures)
