use native.Mathlib.Omega.{arith}
use Rattle.notes.proofs.Destination.{losses_between, losses_near, losses_straight, losses_far}
use Rattle.notes.proofs.note.note_by_losses.Goals as goal

pub returns-in-Some : goal.returns-in-Some
returns-in-Some c = λ p S D g room. let made = c.put_between.ensures p _ S D (losses_between p _ _ _ _ _ _ _ _ S D _ _ _ _ _ g _ c.gather-masks.ensures _ room) in (losses_near p _ _ _ _ _ _ _ _ S D _ _ _ _ _ g c.gather-masks.result c.gather-masks.ensures _ _ room made _ c.box_of-places.ensures _ c.in-Some.ensures.first c.in-Some.ensures.node, made.set)

pub returns-then-straight : goal.returns-then-straight
returns-then-straight c = λ p S D g room. let made = c.put_between.ensures p _ S D (losses_between p _ _ _ _ _ _ _ _ S D _ _ _ _ _ g _ c.gather-masks.ensures _ room) in (losses_straight p _ _ _ _ _ _ _ _ S D _ _ _ _ _ g c.gather-masks.result c.gather-masks.ensures _ _ room made _ c.box_of-places.ensures _ c.in_default.ensures.first (omega arith) c.if-straight.true, made.set)

pub returns : goal.returns
returns c = λ p S D g room. c.far_by_masks.ensures p S D (losses_far p _ _ _ _ _ _ _ _ S D _ _ _ _ _ g _ c.gather-masks.ensures _ _ room (c.put_between.ensures p _ S D (losses_between p _ _ _ _ _ _ _ _ S D _ _ _ _ _ g _ c.gather-masks.ensures _ room)) _ c.box_of-places.ensures _ c.in_default.ensures.first (omega arith) c.if-straight.false _ c.gather-others.ensures)
