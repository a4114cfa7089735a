use native.Mathlib.Omega.{arith}
use Rattle.search.proofs.Seeking.{row_steps}
use Rattle.search.proofs.best.row_start.Goals as goal

pub overflow_mul-result-2 : goal.overflow_mul-result-2
overflow_mul-result-2 c = let w = row_steps _ c.requires.0 _ _ c.requires.1 c.requires.2 in omega (arith, w.2)
