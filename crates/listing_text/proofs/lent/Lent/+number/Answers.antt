use native.Mathlib.Omega.{arith}
use Rattle.listing_text.specs.Steps.{Wrote}
use Rattle.listing_text.specs.Decimal.{decimal}
use Rattle.listing_text.proofs.Puts.{wrote_digit, wrote_digits, decimal_end}
use Rattle.listing_text.proofs.lent.Lent.+number.Goals as goal

pub returns-then-n-lt10 : goal.returns-then-n-lt10
returns-then-n-lt10 t c =
    let w : Wrote c.args.self.now c.byte.new.self (decimal c.args.n) = wrote_digit c.args.n (omega arith) c.byte.ensures in
    record { wrote = w; upper_bound = decimal_end w (omega arith) }

pub returns : goal.returns
returns t c =
    let w : Wrote c.args.self.now c.byte-2.new.self (decimal c.args.n) = wrote_digits c.args.n (omega arith) c.number.ensures.wrote c.byte-2.ensures in
    record { wrote = w; upper_bound = decimal_end w (omega arith) }
