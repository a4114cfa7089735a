use Rattle.machine.proofs.Nodes.{node_of}
use Rattle.conversion.proofs.Said.{no_clear, given_inside, given_kept, refused_kept}
use Rattle.conversion.proofs.keep.entry_kept.Goals as goal

pub route_kept-requires : goal.route_kept-requires
route_kept-requires c = record { shape_value = (node_of _ _ c.requires.dest_value).sound; inside = given_inside _ _ _ c.outcome_by.ensures _ _ c.in-Given.is c.requires.dest_value c.requires.via_value c.requires.second_value }

pub returns-in-Given : goal.returns-in-Given
returns-in-Given c = given_kept _ _ _ c.outcome_by.ensures _ _ c.in-Given.is _ _ c.route_kept.ensures

pub returns-in-Refused : goal.returns-in-Refused
returns-in-Refused c = λ a q. rw (c.ne.ensures, no_clear c.in-Refused.refusal) (refused_kept _ _ _ c.outcome_by.ensures _ c.in-Refused.is _ a q)
