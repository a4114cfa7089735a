use native.Mathlib.Omega.{arith}
use mathlib.Core.Path.{◌≡◌, refl}
use lib.ListN.{length, take}
use lib.Seq.{length-take-le}
use borrow.Author.Rules.{rules}
use Rattle.sheet.proofs.Encoding.{begin, ended}
use Rattle.plan.specs.Layout.{fault_form}
use Rattle.plan_value.proofs.Forms.{lawful, fault_put}
use Rattle.plan_value.proofs.Writings.{taken, whole}
use Rattle.plan_value.proofs.encode.encoded.Goals as goal

pub loop-i-init : goal.loop-i-init
loop-i-init c =
    let n : length (take c.args.plan.count c.args.plan.faults) ≡ c.args.plan.count = length-take-le _ _ (search rules) in
    let long : length c.head-bytes.result ≡ 780 = search rules in
    begin fault_form lawful.long _ _ _ _ (omega (arith, c.head_size-size.ensures.1.1, c.requires))

pub loop-i-preserved : goal.loop-i-preserved
loop-i-preserved c = fault_put _ _ _ _ _ _ c.loop-i.invariant _ _ refl c.put_fault.ensures c.loop-i-test.true

pub returns : goal.returns
returns c =
    let n : length (take c.args.plan.count c.args.plan.faults) ≡ c.args.plan.count = length-take-le _ _ (search rules) in
    let all = ended fault_form lawful.long _ _ _ _ _ _ c.loop-i.invariant c.loop-i-test.false in
    rw (← c.head_size-size.ensures.0) (whole c.args.plan c.head-bytes.result _ c.head-bytes.ensures (rw (← c.head_size-size.ensures.0, ← taken c.args.plan.faults c.args.plan.count) (rw n at all)))
