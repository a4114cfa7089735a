use Rattle.notes.proofs.sets_of.from_set.Reads as reads
use Rattle.notes.proofs.sets_of.from_set.Lts as lts
use Rattle.notes.proofs.sets_of.from_set.Goals as goal

pub returns : goal.returns
returns c = λ p n k is. c.from_masks.ensures p _ _ n _ k is c.ends-masks.ensures
