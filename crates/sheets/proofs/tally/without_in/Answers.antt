use Rattle.std.proofs.Common.{ap, ◌∙◌}
use Rattle.sheets.specs.Tally.{is_without}
use Rattle.sheets.proofs.Tallies.{begin, next, ended}
use Rattle.sheets.proofs.tally.without_in.Goals as goal

pub loop-i-init : goal.loop-i-init
loop-i-init c = begin _ _ c.count_in-i-end.ensures

pub loop-i-preserved : goal.loop-i-preserved
loop-i-preserved c = (next _ _ _ _ c.loop-i.invariant c.loop-i-test.true _ (c.is_without-without.ensures ∙ ap (λ e. is_without e.kind) c.entry_in.ensures)).1

pub returns : goal.returns
returns c = ended _ _ _ _ c.loop-i.invariant c.loop-i-test.false
