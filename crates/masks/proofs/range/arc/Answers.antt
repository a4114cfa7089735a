use Rattle.masks.proofs.Arcs.{row_fits, row_turned}
use Rattle.masks.specs.Ranges.{in_range}
use Rattle.masks.proofs.range.arc.Goals as goal

-- src/range.rt:51:5
pub turned-requires : goal.turned-requires
turned-requires c = (c.requires.0, c.requires.1, row_fits (in_range c.args.lo c.args.hi) _ _ (c.range.ensures c.args.len c.requires.3 c.requires.0))

-- src/range.rt:47:1
pub returns : goal.returns
returns c = row_turned (in_range c.args.lo c.args.hi) _ _ _ _ c.requires.1 (c.range.ensures c.args.len c.requires.3 c.requires.0) c.turned.ensures
