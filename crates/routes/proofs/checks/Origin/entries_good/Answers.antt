use Rattle.routes.specs.Layout.{entries_of}
use Rattle.routes.proofs.Entries.{begin, refused, onward, ended}
use mathlib.Core.Path.{sym, ◌∙◌}
use native.Mathlib.Omega.{arith}
use Rattle.routes.proofs.checks.Origin.entries_good.Goals as goal

pub loop-i-init : goal.loop-i-init
loop-i-init c = begin _ _ _ _ _ c.count_in-i-end.ensures

pub returns-then-not-next_good : goal.returns-then-not-next_good
unfolding entries_of
returns-then-not-next_good c = refused _ _ _ _ _ _ _ c.loop-i.invariant _ c.entry_in-e.ensures c.loop-i-test.true (sym c.next_good.ensures ∙ c.if-not-next_good.true)

pub loop-i-preserved : goal.loop-i-preserved
loop-i-preserved c = onward _ _ _ _ _ _ _ c.loop-i.invariant _ c.entry_in-e.ensures c.loop-i-test.true (sym c.next_good.ensures ∙ c.if-not-next_good.false) (omega arith)

pub returns : goal.returns
unfolding entries_of
returns c = ended _ _ _ _ _ _ _ c.loop-i.invariant c.loop-i-test.false
