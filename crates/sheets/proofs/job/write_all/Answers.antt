use Rattle.std.proofs.Common.{rules}
use Rattle.sheets.proofs.job.write_all.Goals as goal

pub invariant_of-sets : goal.invariant_of-sets
invariant_of-sets g c = record { filled = c.sets_of_input.ensures.sets_made.made (search rules) }
