use native.Mathlib.Omega.{arith}
use lib.ListN.{length-take}
use lib.Seq.{take_all}
use Rattle.listing_text.proofs.Puts.{wrote_none, wrote_more}
use Rattle.listing_text.proofs.lent.Lent.text.Goals as goal

pub loop-b-init : goal.loop-b-init
loop-b-init c = wrote_none _

pub byte-requires : goal.byte-requires
byte-requires c = omega (arith, c.loop-b.invariant.put.next, length-take c.loop-b.b-index c.args.s.now)

pub loop-b-preserved : goal.loop-b-preserved
loop-b-preserved c = wrote_more _ _ c.loop-b-test.true c.loop-b.invariant c.byte.ensures

pub returns : goal.returns
returns c = rw (take_all _ c.args.s.now c.loop-b-test.false) at c.loop-b.invariant
