use mathlib.Core.Path.{◌≡◌, refl}
use native.Mathlib.Numerals.{add-one}
use native.Mathlib.Omega.{arith}
use lib.ListN.{length-set}
use lib.Seq.{paste-zero, paste-suc}
use Rattle.text.proofs.writer.copy.Goals as goal

pub loop-i-init : goal.loop-i-init
loop-i-init c = (paste-zero c.args.out.now c.args.at c.args.s.now, refl)

pub loop-i-preserved : goal.loop-i-preserved
loop-i-preserved c =
    let a = c.args in
    let l = c.loop-i in
    (rw (l.invariant.0, add-one) (paste-suc a.out.now a.at a.s.now l.i 0 (omega arith) (omega arith)), simp length-set l.invariant.1)

pub returns : goal.returns
returns c =
    let all : c.loop-i.i ≡ c.args.count = omega arith in
    rw (← all) c.loop-i.invariant.0
