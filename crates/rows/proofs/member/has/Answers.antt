use native.Mathlib.Omega.{arith}
use mathlib.Core.Path.{refl}
use Rattle.rows.specs.Bits.{bit}
use Rattle.rows.specs.Rows.{in_rows}
use Rattle.rows.proofs.member.has.Goals as goal

pub returns-then-c-ge16 : goal.returns-then-c-ge16
returns-then-c-ge16 c = λ l x y z. absurd (omega (arith, c.if-c-ge16.true))

pub returns-then-rows-row : goal.returns-then-rows-row
returns-then-rows-row c = λ l x y z. absurd (omega (arith, c.if-rows-row.true))

pub returns-then-rows-row-2 : goal.returns-then-rows-row-2
returns-then-rows-row-2 c = λ l x y z. absurd (omega (arith, c.if-rows-row-2.true, c.if-rows-row.false))

pub returns : goal.returns
unfolding in_rows bit
returns c = λ l x y z. refl
