use native.Mathlib.Omega.{arith}
use Rattle.rows.proofs.Taking.{product_skip, no_eight, half_begin, half_turn, half_end}
use Rattle.rows.proofs.product.less_half.Goals as goal

pub overflow_shr-z : goal.overflow_shr-z
overflow_shr-z c = omega (arith, c.requires)

pub returns-then-z-first-eq0 : goal.returns-then-z-first-eq0
returns-then-z-first-eq0 c = λ bx by old p. product_skip bx by _ _ old _ _ 8 (omega (arith, c.requires)) (no_eight _ _ c.if-z-first-eq0.true) p

pub loop-k-init : goal.loop-k-init
loop-k-init c = half_begin _ _ _ _ c.requires

pub overflow_add-first : goal.overflow_add-first
overflow_add-first c = omega (arith, c.loop-k.invariant.low)

pub bit-requires : goal.bit-requires
bit-requires c = omega (arith, c.loop-k.invariant.low)

pub overflow_add-first-in-loop-k : goal.overflow_add-first-in-loop-k
overflow_add-first-in-loop-k c = omega (arith, c.loop-k.invariant.low)

pub overflow_cast-first : goal.overflow_cast-first
overflow_cast-first c = omega (arith, c.loop-k.invariant.low)

pub keep_if-requires : goal.keep_if-requires
keep_if-requires c = omega (arith, c.loop-k.invariant.low)

pub loop-k-preserved : goal.loop-k-preserved
loop-k-preserved c = half_turn _ _ _ _ _ _ _ _ c.bit.ensures c.loop-k.invariant (omega arith) c.keep_if.ensures

pub returns : goal.returns
returns c = half_end _ _ _ _ _ _ c.loop-k.invariant c.loop-k-test.false
