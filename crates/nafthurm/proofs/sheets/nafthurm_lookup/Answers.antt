use Rattle.routes.specs.Lookup.{part_for}
use Rattle.nafthurm.proofs.sheets.nafthurm_lookup.Goals as goal

pub returns : goal.returns
unfolding part_for
returns c = rw c.entry_part-part.ensures.value
