use Rattle.search.specs.Number.{unclear}
use Rattle.choice_number.specs.Told.{one_told}
use mathlib.Core.Path.{refl}
use native.Mathlib.Omega.{arith}
use borrow.Author.Tests.{le-leb, lt-leb}
use Rattle.choice_number.proofs.read.by_one.Goals as goal

pub returns-then-note-ge-UNCLEAR : goal.returns-then-note-ge-UNCLEAR
unfolding one_told
returns-then-note-ge-UNCLEAR c = rw (le-leb unclear c.args.note c.if-note-ge-UNCLEAR.true) refl

pub returns : goal.returns
unfolding one_told
returns c = rw (lt-leb unclear c.args.note (omega arith)) (rw (c.via_in.ensures, c.mode.ensures, c.mode-2.ensures, c.det.ensures.0) refl)
