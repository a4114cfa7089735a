use mathlib.Core.Path.{sym}
use Rattle.numbers.proofs.Refusals.{exit, passed, refused}
use Rattle.route_value.proofs.Readings.{few}
use Rattle.route_value.specs.Reading.{routes_of}
use Rattle.route_value.proofs.reading.read.Goals as goal

pub returns-in_err-check : goal.returns-in_err-check
returns-in_err-check c = rw (exit _ _ c.from_residual.ensures.1) (record { value = refused _ _ _ c.in_err-check.ensures; number = c.in_err-check.ensures })

pub entries_in-requires : goal.entries_in-requires
entries_in-requires c = few _ _ _ (sym c.in_ok-check.ensures)

pub returns : goal.returns
unfolding routes_of
returns c = record { value = rw (c.entries_in.ensures, c.count_in.ensures, c.source_in.ensures) (passed _ _ c.in_ok-check.ensures); number = c.in_ok-check.ensures }
