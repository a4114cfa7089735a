use native.Mathlib.Omega.{arith}
use mathlib.Core.Path.{refl, ◌∙◌}
use Rattle.shape.specs.declared.shape.Dim.TheVariants.{X, Y}
use Rattle.shape.proofs.Shapes.{sound}
use Rattle.planner.proofs.EachNote.{same_noting, shape_sound, begun, done}
use Rattle.planner.proofs.noting.notes_from.Goals as goal

pub invariant_of-outward : goal.invariant_of-outward
invariant_of-outward c = let g = c.args.source.now.ready in record { in_x = λ k l. let e = rw c.axis.ensures at c.rows_by_hops-xs.ensures in e (sound _ (shape_sound g) X).high k l; in_y = λ k l. let e = rw c.axis-2.ensures at c.rows_by_hops-ys.ensures in e (sound _ (shape_sound g) Y).high k l }

pub loop-r-init : goal.loop-r-init
loop-r-init c = (refl, rw c.requires.notes_fresh (begun c.args.source.now.ready _ _ c.requires.twos_len))

pub note_rows-requires : goal.note_rows-requires
note_rows-requires c = record { near_len = c.loop-r.invariant.0; noting = c.loop-r.invariant.1 }

pub loop-r-preserved : goal.loop-r-preserved
loop-r-preserved c = (c.note_rows.ensures.near_len_2, c.note_rows.ensures.noting_2)

pub returns : goal.returns
returns c = λ k. done c.args.source.now.ready _ _ _ (same_noting _ _ _ _ _ _ _ _ (omega arith) c.loop-r.invariant.1) k
