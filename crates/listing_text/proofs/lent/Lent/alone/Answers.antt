use native.Mathlib.Omega.{arith}
use Rattle.listing_text.specs.Steps.{field_text}
use Rattle.listing_text.proofs.lent.Lent.alone.Goals as goal

pub returns-in-Some : goal.returns-in-Some
unfolding field_text
returns-in-Some c = record { wrote = rw c.in-Some.is c.number.ensures.wrote; upper_bound = c.number.ensures.upper_bound }

pub returns-in-None : goal.returns-in-None
unfolding field_text
returns-in-None c = record { wrote = rw c.in-None.is c.byte.ensures; upper_bound = omega (arith, c.byte.ensures.put.next) }
