use Rattle.masks.proofs.Arcs.{row_fits, row_turned, two_ranges}
use Rattle.masks.proofs.range.arcs.Goals as goal

-- src/range.rt:59:5
pub turned-requires : goal.turned-requires
turned-requires c = (c.requires.0, c.requires.1, row_fits _ _ _ (two_ranges _ _ _ _ _ _ _ c.requires.0 c.requires.3 c.requires.5 c.range.ensures c.range-2.ensures))

-- src/range.rt:55:1
pub returns : goal.returns
returns c = row_turned _ _ _ _ _ c.requires.1 (two_ranges _ _ _ _ _ _ _ c.requires.0 c.requires.3 c.requires.5 c.range.ensures c.range-2.ensures) c.turned.ensures
