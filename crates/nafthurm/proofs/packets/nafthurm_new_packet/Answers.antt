use Rattle.nafthurm.proofs.packets.nafthurm_new_packet.Goals as goal

pub returns : goal.returns
returns c = rw (← c.outcome_in.ensures, ← c.packet_in.ensures) c.into.ensures
