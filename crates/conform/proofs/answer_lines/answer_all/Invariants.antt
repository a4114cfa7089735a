use Rattle.std.proofs.Common.{◌≤◌, length, IfSome}
use Rattle.conform.proofs.answer_lines.answer_all.Given as goal

abbrev pub invariant-loop : goal.invariant-loop
invariant-loop g l = IfSome l.kept (λ n. n ≤ length l.buffer)
