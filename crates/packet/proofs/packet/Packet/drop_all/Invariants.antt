use Prim.Native.Nat.{◌-◌}
use Rattle.packet.proofs.Drops.{Dropping}
use Rattle.packet.proofs.packet.Packet.drop_all.Given as goal

abbrev pub invariant-loop-next : goal.invariant-loop-next
invariant-loop-next l = Dropping l.initial.next l.next

abbrev pub decreases-loop-next : goal.decreases-loop-next
decreases-loop-next l = l.next.count - l.next.mark
