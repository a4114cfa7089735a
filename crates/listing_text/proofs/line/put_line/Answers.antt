use native.Mathlib.Omega.{arith}
use Rattle.listing_text.proofs.Lines.{line_put}
use Rattle.listing_text.proofs.line.put_line.Goals as goal

pub returns : goal.returns
returns c = record { wrote = line_put _ _ _ _ _ _ c.kind_of.ensures c.via_of.ensures c.second_of.ensures c.length_of.ensures c.field.ensures.wrote c.field-2.ensures.wrote c.field-3.ensures.wrote c.field-4.ensures.wrote c.field-5.ensures.wrote; upper_bound = omega arith }
