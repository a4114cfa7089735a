use native.Mathlib.Omega.{arith}
use Rattle.sheet.proofs.Fill.{begin, onward, ended}
use Rattle.routes.specs.Layout.{entries_of, no_entry, most_entries}
use Rattle.route_value.specs.Reading.{entry_array}
use Rattle.route_value.proofs.reading.entries_in.Goals as goal

pub loop-i-init : goal.loop-i-init
loop-i-init c = (c.count_in-i-end.ensures, begin no_entry _ most_entries _ (omega (arith, c.count_in-i-end.ensures, c.requires)))

pub loop-i-preserved : goal.loop-i-preserved
loop-i-preserved c = let inv = c.loop-i.invariant in (inv.0, onward no_entry _ most_entries _ _ _ inv.1 _ c.entry_in.ensures c.loop-i-test.true)

pub returns : goal.returns
unfolding entry_array entries_of
returns c = let inv = c.loop-i.invariant in rw (← inv.0) (ended no_entry _ most_entries _ _ _ inv.1 c.loop-i-test.false)
