use mathlib.Core.Path.{refl}
use borrow.Author.Tests.{le-leb, lt-leb}
use Rattle.search.specs.Number.{unclear}
use Rattle.choice_number.specs.Note.{over_of}
use Rattle.choice_number.proofs.read.over.Goals as goal

pub returns-then-note-ge-UNCLEAR : goal.returns-then-note-ge-UNCLEAR
unfolding over_of
returns-then-note-ge-UNCLEAR c = rw (le-leb unclear c.args.note c.if-note-ge-UNCLEAR.true) refl

pub returns : goal.returns
unfolding over_of
returns c = rw (lt-leb unclear c.args.note c.if-note-ge-UNCLEAR.false) refl
