use Rattle.conversion.proofs.Legs.{direct_node, direct_kept, via_node, end_node, via_kept, vias_nodes, vias_kept}
use Rattle.conversion.proofs.keep.route_kept.Goals as goal

both : {A B : Type 0} → A × B → record { via_value : A; dest_value : B }
both p = record { via_value = p.0; dest_value = p.1 }

pub leg_kept-requires : goal.leg_kept-requires
leg_kept-requires c = direct_node _ c.requires.shape_value _ _ c.requires.inside _ c.in-Direct.is

pub via_kept-requires : goal.via_kept-requires
via_kept-requires c = record { via_value = via_node _ c.requires.shape_value _ _ c.requires.inside _ _ _ c.in-Via.is; dest_value = end_node _ c.requires.shape_value _ _ c.requires.inside _ _ _ c.in-Via.is }

pub via_kept-requires-in-Vias : goal.via_kept-requires-in-Vias
via_kept-requires-in-Vias c = both (let n = vias_nodes _ c.requires.shape_value _ _ c.requires.inside _ _ _ _ _ c.in-Vias.is in (n.0, n.1.0))

pub second_kept-requires : goal.second_kept-requires
second_kept-requires c = both ((vias_nodes _ c.requires.shape_value _ _ c.requires.inside _ _ _ _ _ c.in-Vias.is).1)

pub returns-in-Direct : goal.returns-in-Direct
returns-in-Direct c = direct_kept _ c.requires.shape_value _ _ c.requires.inside _ c.in-Direct.is _ _ c.leg_kept.ensures

pub returns-in-Via : goal.returns-in-Via
returns-in-Via c = via_kept _ c.requires.shape_value _ _ c.requires.inside _ _ _ c.in-Via.is _ _ c.via_kept.ensures

pub returns-in-Vias : goal.returns-in-Vias
returns-in-Vias c = vias_kept _ c.requires.shape_value _ _ c.requires.inside _ _ _ _ _ c.in-Vias.is _ _ _ _ c.via_kept-in-Vias.ensures c.second_kept.ensures c.both.ensures
