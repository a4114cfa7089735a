use Rattle.rows.proofs.LowestBit.{past_end, none_left, some_left}
use mathlib.Core.Path.{refl}
use native.Mathlib.Omega.{arith}
use Rattle.rows.proofs.next.next_set.Goals as goal

pub returns-then-x-ge16 : goal.returns-then-x-ge16
returns-then-x-ge16 c = past_end _ _ c.if-x-ge16.true

pub returns-then-rest-eq0 : goal.returns-then-rest-eq0
returns-then-rest-eq0 c = none_left _ _ c.if-rest-eq0.true

pub overflow_cast-result : goal.overflow_cast-result
overflow_cast-result c = let w = some_left _ _ _ (omega arith) (omega arith) c.if-rest-eq0.false refl in omega (arith, w.0)

pub overflow_add-result : goal.overflow_add-result
overflow_add-result c = let w = some_left _ _ _ (omega arith) (omega arith) c.if-rest-eq0.false refl in omega (arith, w.0)

pub returns : goal.returns
returns c = let w = some_left _ _ _ (omega arith) (omega arith) c.if-rest-eq0.false refl in w.1
