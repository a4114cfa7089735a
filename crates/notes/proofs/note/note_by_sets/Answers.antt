use native.Mathlib.Omega.{arith}
use Rattle.notes.proofs.Destination.{sets_near, sets_straight, sets_blocked, sets_short, sets_faring}
use Rattle.notes.proofs.note.note_by_sets.Goals as goal

pub returns-in-Some : goal.returns-in-Some
returns-in-Some c = λ p S g. sets_near p _ _ _ S _ _ _ _ _ _ g _ c.box_of-places.ensures _ c.in-Some.ensures.first c.in-Some.ensures.node

pub returns-then-straight : goal.returns-then-straight
returns-then-straight c = λ p S g. sets_straight p _ _ _ S _ _ _ _ _ _ g _ c.box_of-places.ensures _ c.in_default.ensures.first (omega arith) c.if-straight.true

pub returns-then-short-lt-UNCLEAR : goal.returns-then-short-lt-UNCLEAR
returns-then-short-lt-UNCLEAR c = λ p S g. c.short_note-short.ensures p S _ (sets_short p _ _ _ S _ _ _ _ _ _ g _ c.box_of-places.ensures (sets_blocked p _ _ _ S _ _ _ _ _ _ g _ c.box_of-places.ensures _ c.in_default.ensures.first (omega arith) c.if-straight.false)) c.if-short-lt-UNCLEAR.true

pub returns : goal.returns
returns c = λ p S g. c.best_note.ensures p S _ (sets_faring p _ _ _ S _ _ _ _ _ _ g _ c.box_of-places.ensures (sets_blocked p _ _ _ S _ _ _ _ _ _ g _ c.box_of-places.ensures _ c.in_default.ensures.first (omega arith) c.if-straight.false))
