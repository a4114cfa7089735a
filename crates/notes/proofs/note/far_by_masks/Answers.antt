use native.Mathlib.Omega.{arith}
use Rattle.notes.proofs.Destination.{masks_between, masks_short, masks_front, masks_behind, masks_faring}
use Rattle.notes.proofs.note.far_by_masks.Goals as goal

pub returns-then-short-lt-UNCLEAR : goal.returns-then-short-lt-UNCLEAR
returns-then-short-lt-UNCLEAR c = λ p S D g. let made = c.put_between.ensures p _ S D (masks_between p _ _ _ _ S D _ _ _ _ _ _ _ _ _ g) in (c.short_note-short.ensures p S D (masks_short p _ _ _ _ S D _ _ _ _ _ _ _ _ _ g _ made _ c.box_of.ensures) c.if-short-lt-UNCLEAR.true, masks_front p _ _ _ _ S D _ _ _ _ _ _ _ _ _ g _ made)

pub returns : goal.returns
returns c = λ p S D g. let made = c.put_between.ensures p _ S D (masks_between p _ _ _ _ S D _ _ _ _ _ _ _ _ _ g) in (c.best_note.ensures p S D (masks_faring p _ _ _ _ S D _ _ _ _ _ _ _ _ _ g _ _ (c.put_both.ensures.by_index p _ D _ g.ends (omega (arith, g.set.0, made.rest.long)))), masks_behind p _ _ _ _ S D _ _ _ _ _ _ _ _ _ g _ _ made (c.put_both.ensures.elsewhere (omega (arith, g.set.0, made.rest.long))))
