use mathlib.Core.Path.{sym}
use native.Mathlib.Omega.{arith}
use Rattle.sheet.proofs.Records.{word_past}
use Rattle.sheet.proofs.word_at.Goals as goal

pub returns-else-at-s : goal.returns-else-at-s
returns-else-at-s c = record { value = sym (word_past c.args.s.now _ c.if-at-s.false); upper_bound = omega arith }
