use native.Mathlib.Omega.{arith}
use Rattle.listing_text.proofs.Lines.{begin, onward, ended}
use Rattle.listing_text.proofs.said.put_lines.Goals as goal

pub loop-d-init : goal.loop-d-init
loop-d-init c = begin _ _ _ c.requires.0 c.requires.1

pub loop-d-preserved : goal.loop-d-preserved
loop-d-preserved c = onward _ _ _ _ _ _ c.loop-d.invariant c.put_line.ensures.wrote c.put_line.ensures.upper_bound

pub returns : goal.returns
returns c = ended _ _ _ _ _ c.loop-d.invariant (omega arith)
