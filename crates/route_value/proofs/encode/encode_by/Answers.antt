use native.Mathlib.Omega.{arith}
use Rattle.route_value.proofs.Forms.{head_room, first_entry, entry_put}
use Rattle.route_value.proofs.Writings.{made}
use Rattle.route_value.proofs.encode.encode_by.Goals as goal

pub loop-i-init : goal.loop-i-init
loop-i-init g c = λ f h. first_entry _ _ _ (head_room _ _ _ _ _ c.put_head.ensures (omega arith))

pub loop-i-preserved : goal.loop-i-preserved
loop-i-preserved g c = λ f h. entry_put _ _ _ _ _ (c.loop-i.invariant f h) _ _ (h _ _ (omega arith) c.entry.ensures) c.put_entry.ensures c.loop-i-test.true

pub returns : goal.returns
returns g c = λ f h. made _ _ f _ _ _ _ c.put_head.ensures (omega arith) (c.loop-i.invariant f h) c.loop-i-test.false
