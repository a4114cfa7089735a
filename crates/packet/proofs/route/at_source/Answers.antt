use Rattle.packet.proofs.New.{source_direct, source_via, source_vias}
use Rattle.packet.proofs.route.at_source.Goals as goal

pub returns-in-Direct : goal.returns-in-Direct
returns-in-Direct c = source_direct _ _ _ _ _ _ c.in-Direct.is c.leg_to-leg.ensures c.with.ensures

pub returns-in-Via : goal.returns-in-Via
returns-in-Via c = source_via _ _ _ _ _ _ _ _ _ c.in-Via.is c.leg_to-front.ensures c.leg_to-last.ensures c.with-in-Via.ensures

pub returns-in-Vias : goal.returns-in-Vias
returns-in-Vias c = source_vias _ _ _ _ _ _ _ _ _ _ _ _ c.in-Vias.is c.leg_to-front-in-Vias.ensures c.leg_to-middle.ensures c.leg_to-last-in-Vias.ensures c.with-in-Vias.ensures
