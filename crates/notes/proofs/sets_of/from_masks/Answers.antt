use Rattle.notes.proofs.Knowing.{from_known}
use Rattle.notes.proofs.sets_of.from_masks.Reads as reads
use Rattle.notes.proofs.sets_of.from_masks.Lts as lts
use Rattle.notes.proofs.sets_of.from_masks.Goals as goal

pub returns : goal.returns
returns c = λ p s m n at k is e. from_known p s _ _ k n at is m _ _ e c.clear_in.ensures
