use Rattle.packet.specs.Packet.{packet_with}
use Rattle.nafthurm.specs.Forms.{packet_of}
use Rattle.nafthurm.proofs.forms.PacketFromPacketForm.from.Goals as goal

pub returns : goal.returns
unfolding packet_of packet_with
returns c = rw (← c.into.ensures, ← c.into-2.ensures, ← c.into-3.ensures) c.with.ensures
