use Rattle.notes.proofs.Destination.{length_is_law}
use Rattle.notes.proofs.LastStep.{least_note}
use Rattle.notes.proofs.best.best_note.Goals as goal

pub returns : goal.returns
returns c = λ p S D g. least_note p _ _ S D _ _ _ _ _ _ g _ _ (length_is_law p _ _ S D _ _ _ g.plan g.weights g.shape g.source g.target c.distance_at.ensures) c.best_via.ensures _ c.note_of.ensures
