use Rattle.nafthurm.specs.Forms.{made_for}
use Rattle.nafthurm.proofs.forms.PacketFormFromPacket.from.Goals as goal

pub returns : goal.returns
unfolding made_for
returns c = rw (c.into-3.ensures, c.into-2.ensures, c.into.ensures)
