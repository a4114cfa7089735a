use Prim.Native.Nat.{◌*◌, ◌/◌}
use mathlib.Core.Path.{refl}
use borrow.Author.Tests.{le-leb, lt-leb, lt-ltb, le-ltb}
use Rattle.search.specs.Number.{unclear}
use Rattle.notes.specs.Known.{note_of}
use Rattle.notes.proofs.best.note_of.Goals as goal

pub returns-then-number-ge-UNCLEAR : goal.returns-then-number-ge-UNCLEAR
unfolding note_of
returns-then-number-ge-UNCLEAR c = rw (le-leb unclear c.args.number c.if-number-ge-UNCLEAR.true) refl

pub returns-then-value-least : goal.returns-then-value-least
unfolding note_of
returns-then-value-least c = rw (lt-leb unclear c.args.number c.if-number-ge-UNCLEAR.false, lt-ltb (c.args.number / 16384) (4 * c.args.length) c.if-value-least.true) refl

pub returns : goal.returns
unfolding note_of
returns c = rw (lt-leb unclear c.args.number c.if-number-ge-UNCLEAR.false, le-ltb (c.args.number / 16384) (4 * c.args.length) c.if-value-least.false) refl
