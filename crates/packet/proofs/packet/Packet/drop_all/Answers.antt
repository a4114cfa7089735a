use native.Mathlib.Omega.{arith}
use mathlib.Core.Path.{sym, ◌∙◌}
use Rattle.packet.proofs.Drops.{dropping, ends_here_law, dropping_on, dropping_all}
use Rattle.packet.proofs.packet.Packet.drop_all.Goals as goal

pub loop-next-init : goal.loop-next-init
loop-next-init c = dropping _ c.requires

pub ends_here-requires : goal.ends_here-requires
ends_here-requires c = c.loop-next.invariant.few

pub overflow_add-next : goal.overflow_add-next
overflow_add-next c = let e = ends_here_law _ (sym c.ends_here.ensures ∙ c.loop-next-test.true) in omega (arith, e.left, c.loop-next.invariant.few)

pub loop-next-smaller : goal.loop-next-smaller
loop-next-smaller c = omega (arith, (ends_here_law _ (sym c.ends_here.ensures ∙ c.loop-next-test.true)).left)

pub loop-next-preserved : goal.loop-next-preserved
loop-next-preserved c = dropping_on _ _ c.loop-next.invariant (sym c.ends_here.ensures ∙ c.loop-next-test.true)

pub returns : goal.returns
returns c = dropping_all _ _ c.loop-next.invariant (sym c.ends_here.ensures ∙ c.loop-next-test.false)
