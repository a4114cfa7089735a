use native.Mathlib.Omega.{arith}
use Rattle.routes.proofs.Sheets.{size_most}
use Rattle.routes.proofs.layout.size_after.Goals as goal

pub overflow_mul-result-2 : goal.overflow_mul-result-2
overflow_mul-result-2 c = omega (arith, size_most c.args.format.vias c.args.count (omega arith) (omega arith))

pub overflow_add-result-2 : goal.overflow_add-result-2
overflow_add-result-2 c = omega (arith, size_most c.args.format.vias c.args.count (omega arith) (omega arith))
