use native.Mathlib.Omega.{arith}
use Rattle.planner.proofs.EachNote.{same_noting, planes_done, plane_word}
use Rattle.planner.proofs.noting.note_rows.Goals as goal

pub loop-z-init : goal.loop-z-init
loop-z-init c = (c.requires.near_len, same_noting _ _ _ _ _ _ _ _ (omega arith) c.requires.noting)

pub note_plane-requires : goal.note_plane-requires
note_plane-requires c = let o = c.args.outward.now in record { near_len = c.loop-z.invariant.0; z_lt_z = (omega arith, plane_word o.source.now.ready o.skip.now _ o.in_y _ _ _ _ (omega arith) (rw (c.hops-far.ensures, c.axis.ensures)) c.due_rows-word.ensures); noting = c.loop-z.invariant.1 }

pub loop-z-preserved : goal.loop-z-preserved
loop-z-preserved c = (c.note_plane.ensures.near_len_2, c.note_plane.ensures.noting_2)

pub returns : goal.returns
returns c = let o = c.args.outward.now in record { noting_2 = planes_done o.source.now.ready o.skip.now _ _ (omega arith) (omega arith) _ _ c.loop-z.invariant.1; near_len_2 = c.loop-z.invariant.0 }
