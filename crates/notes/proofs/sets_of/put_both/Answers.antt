use Rattle.notes.proofs.Knowing.{whole_part}
use Rattle.notes.proofs.sets_of.put_both.Goals as goal

pub returns : goal.returns
returns c = record { by_index = λ p s n at k room. whole_part p k.of_plan.plan n _ _ (c.put_part.ensures.by_index p s n at k room); elsewhere = c.put_part.ensures.elsewhere }
