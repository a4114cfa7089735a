use Rattle.std.proofs.Common.{◌-◌}
use Rattle.sheets.proofs.job.Sets.write_runs.Given as goal

abbrev pub decreases-loop-progress : goal.decreases-loop-progress
decreases-loop-progress g l = 65536 - l.progress.next
