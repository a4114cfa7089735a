use native.Mathlib.Omega.{arith}
use Rattle.first_clear.proofs.Twos.{two_found, two_none}
use Rattle.first_clear.proofs.near.two_vias.Goals as goal

pub overflow_mul-result : goal.overflow_mul-result
overflow_mul-result c = let low = (c.in-Some.ensures.first.found c.in-Some.ensures.node).2 in omega (arith, low)

pub overflow_add-result : goal.overflow_add-result
overflow_add-result c = let low = (c.in-Some.ensures.first.found c.in-Some.ensures.node).2 in omega (arith, low, c.in-Some.ensures.node)

pub returns-in-Some : goal.returns-in-Some
returns-in-Some c = λ p S D g. two_found p _ S D _ _ _ _ _ _ g _ c.in-Some.ensures.first c.in-Some.ensures.node

pub returns-in-None : goal.returns-in-None
returns-in-None c = λ p S D g. two_none p _ S D _ _ _ _ _ _ g _ c.in-None.ensures.first (omega arith)
