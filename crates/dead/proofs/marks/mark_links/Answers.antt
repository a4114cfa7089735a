use native.Mathlib.Omega.{arith}
use Rattle.dead.proofs.Table.{from_more}
use Prim.Native.Nat.{◌-◌}
use mathlib.Core.Path.{◌≡◌}
use Rattle.dead.specs.Steps.{mark_from}
use Rattle.dead.proofs.marks.mark_links.Goals as goal

pub loop-dir-init : goal.loop-dir-init
unfolding mark_from
loop-dir-init c = let z : c.args.first - c.args.first ≡ 0 = omega arith in rw z

pub loop-dir-preserved : goal.loop-dir-preserved
loop-dir-preserved c = from_more _ _ _ _ _ _ _ (omega arith) c.loop-dir.invariant c.mark_link.ensures

pub returns : goal.returns
returns c = let l = c.loop-dir in let z : l.dir ≡ c.args.last = omega arith in rw (← z) l.invariant
