use native.Mathlib.Omega.{arith}
use Rattle.packet.proofs.LastHop.{down_begin, down_found, down_on, down_end}
use Rattle.packet.proofs.packet.Packet.last_leg.Goals as goal

pub loop-i-init : goal.loop-i-init
loop-i-init c = down_begin _

pub begin-requires : goal.begin-requires
begin-requires c = let d = c.loop-i.invariant in (omega (arith, d.most, c.requires.0), c.requires.1)

pub returns-then-begin-self : goal.returns-then-begin-self
returns-then-begin-self c = down_found _ _ _ c.loop-i.invariant c.begin.ensures c.if-begin-self.true

pub loop-i-preserved : goal.loop-i-preserved
loop-i-preserved c = down_on _ _ _ c.loop-i.invariant c.begin.ensures c.if-begin-self.false

pub returns-else-begin-self : goal.returns-else-begin-self
returns-else-begin-self c = down_end _ _ _ c.loop-i.invariant (omega arith) c.begin.ensures c.if-begin-self.false
