use Rattle.packet.specs.New.{legs_to}
use Rattle.choice.specs.Choice.{vias_of}
use Rattle.routes.specs.Said.{entry_for}
use Rattle.routes.proofs.kinds.entry_with.Goals as goal

pub returns-in-Direct : goal.returns-in-Direct
unfolding entry_for legs_to vias_of
returns-in-Direct c = rw (c.in-Direct.is, c.kind_direct.ensures c.args.dest)

pub returns-in-Via : goal.returns-in-Via
unfolding entry_for legs_to vias_of
returns-in-Via c = rw (c.in-Via.is, c.kind_via.ensures c.args.dest c.in-Via.via)

pub returns-in-Vias : goal.returns-in-Vias
unfolding entry_for legs_to vias_of
returns-in-Vias c = rw (c.in-Vias.is, c.kind_vias.ensures c.args.dest c.in-Vias.via c.in-Vias.further)
