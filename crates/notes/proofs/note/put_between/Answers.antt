use Rattle.notes.proofs.Destination.{between_made}
use Rattle.notes.proofs.note.put_between.Goals as goal

pub returns : goal.returns
returns c = λ p m S D g. between_made p m _ S D _ _ _ _ _ _ _ g _ c.box_of.ensures _ _ c.clear_in-set.ensures (c.put_rows.ensures g.room)
