use mathlib.Core.Path.{sym, ◌∙◌}
use Rattle.routes.specs.Checks.{routes_good, good_in}
use Rattle.routes.specs.Layout.{entry_at, entries_of}
use Rattle.routes.proofs.checks.sheet_good.Goals as goal

pub returns-then-not-head_good : goal.returns-then-not-head_good
unfolding good_in
returns-then-not-head_good c = rw (← c.format_in.ensures, sym c.head_good.ensures ∙ c.if-not-head_good.true)

pub returns : goal.returns
unfolding routes_good good_in entries_of entry_at
returns c = let own = c.format_in.ensures in let head = sym c.head_good.ensures ∙ c.if-not-head_good.false in rw (rw own at head, c.both.ensures, c.entries_good.ensures, c.is_node.ensures, c.source_in-source.ensures)
