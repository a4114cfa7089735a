use Rattle.conversion.specs.Steps.{half_between}
use Rattle.conversion.proofs.half.is_half.Goals as goal

pub returns : goal.returns
unfolding half_between
returns c = c.either.ensures
