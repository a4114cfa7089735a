use native.Mathlib.Omega.{arith}
use Rattle.listing_text.proofs.Lines.{head_put}
use Rattle.listing_text.proofs.header.put_header.Goals as goal

pub returns : goal.returns
returns c = record { wrote = head_put _ _ _ c.field.ensures.wrote c.field-2.ensures.wrote c.field-3.ensures.wrote; upper_bound = omega arith }
