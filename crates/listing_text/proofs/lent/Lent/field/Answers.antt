use native.Mathlib.Omega.{arith}
use Rattle.listing_text.proofs.Puts.{wrote_then}
use Rattle.listing_text.proofs.lent.Lent.field.Goals as goal

pub returns : goal.returns
returns c = record { wrote = wrote_then c.alone.ensures.wrote c.byte.ensures; upper_bound = omega (arith, c.byte.ensures.put.next) }
