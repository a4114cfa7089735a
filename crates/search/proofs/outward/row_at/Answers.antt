use Rattle.std.proofs.Common.{rules}
use Rattle.search.specs.Outward.{hops_row}
use Rattle.search.proofs.outward.row_at.Goals as goal

pub returns : goal.returns
unfolding hops_row
returns c = c.row_where.ensures _ (λ i b l e. search rules)
