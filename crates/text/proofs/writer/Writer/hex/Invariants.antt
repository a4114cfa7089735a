use Rattle.std.proofs.Common.{◌≡◌}
use Rattle.text.proofs.writer.Writer.hex.Given as goal

abbrev pub invariant-loop-b : goal.invariant-loop-b
invariant-loop-b l = l.self.out.ghost_name ≡ l.initial.self.out.ghost_name
