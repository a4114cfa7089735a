use mathlib.Core.Path.{◌≡◌, refl}
use native.Mathlib.Omega.{arith}
use Rattle.masks.proofs.Tables.{lay_begin, lay_turn}
use Rattle.masks.proofs.table.lay.Goals as goal

pub loop-j-init : goal.loop-j-init
loop-j-init c = lay_begin _ _ _

pub loop-j-preserved : goal.loop-j-preserved
loop-j-preserved c = lay_turn _ _ _ _ _ _ c.loop-j.invariant (let room = c.requires.0 in omega arith) refl

pub returns-clause-here : goal.returns-clause-here
returns-clause-here c = let e : c.loop-j.j ≡ 96 = omega arith in rw e at c.loop-j.invariant.here

pub returns-clause-before : goal.returns-clause-before
returns-clause-before c = c.loop-j.invariant.before
