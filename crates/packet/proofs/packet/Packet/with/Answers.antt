use mathlib.Core.Path.{refl}
use Rattle.packet.specs.Packet.{packet_with}
use Rattle.packet.proofs.packet.Packet.with.Goals as goal

pub returns : goal.returns
unfolding packet_with
returns c = refl
