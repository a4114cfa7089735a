use mathlib.Core.Path.{refl}
use Rattle.planner.proofs.NearRows.{near_row_law}
use Rattle.planner.proofs.EachNote.{is_at, turn}
use Rattle.planner.proofs.noting.note_node.Goals as goal

pub invariant_of-target : goal.invariant_of-target
invariant_of-target c = let row = c.args.row.now in record { node_at = is_at row.outward.now.source.now.ready _ (record { x = c.requires.inside.0; y = row.inside.0; z = row.inside.1 }) _ c.number_at-node.ensures }

pub note_to-requires : goal.note_to-requires
note_to-requires c = let row = c.args.row.now in near_row_law _ _ _ _ _ _ _ _ row.near_row _ _ (is_at row.outward.now.source.now.ready _ (record { x = c.requires.inside.0; y = row.inside.0; z = row.inside.1 }) _ c.number_at-node.ensures) refl

pub returns : goal.returns
returns c = let row = c.args.row.now in let g = row.outward.now.source.now.ready in let to = is_at g _ (record { x = c.requires.inside.0; y = row.inside.0; z = row.inside.1 }) _ c.number_at-node.ensures in turn g _ _ _ _ c.requires.noting _ _ to refl c.requires.inside.1 _ c.note_to.ensures.note_to _ c.two_to.ensures
