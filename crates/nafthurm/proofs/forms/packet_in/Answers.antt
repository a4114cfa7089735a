use Rattle.nafthurm.specs.Forms.{packet_in}
use Rattle.nafthurm.proofs.forms.packet_in.Goals as goal

pub returns-in-Given : goal.returns-in-Given
unfolding packet_in
returns-in-Given c = rw c.in-Given.is c.new.ensures

pub returns-in-Refused : goal.returns-in-Refused
unfolding packet_in
returns-in-Refused c = rw c.in-Refused.is c.with.ensures
