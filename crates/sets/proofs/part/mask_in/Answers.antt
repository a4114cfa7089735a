use Rattle.sets.specs.Part.{mask_in}
use Rattle.sets.proofs.part.mask_in.Goals as goal

pub returns : goal.returns
unfolding mask_in
returns c = rw (c.place.ensures.value, c.column.ensures.value, c.dim_number.ensures.value)
