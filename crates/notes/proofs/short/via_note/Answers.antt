use mathlib.Core.Path.{refl}
use borrow.Author.Tests.{lt-ltb}
use Rattle.notes.specs.Known.{via_note}
use Rattle.notes.proofs.short.via_note.Goals as goal

pub returns : goal.returns
unfolding via_note
returns c = rw (lt-ltb c.args.via 4096 c.requires) refl
