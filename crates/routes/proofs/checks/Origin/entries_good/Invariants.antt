use Rattle.routes.specs.Layout.{entry_at}
use Rattle.routes.proofs.Entries.{Checking}
use Rattle.routes.proofs.checks.Origin.entries_good.Given as goal

abbrev pub invariant-loop-i : goal.invariant-loop-i
invariant-loop-i l = Checking (entry_at l.sheet) l.sheet l.self.shape l.self.source l.i-end l.least l.i
