use mathlib.Core.Path.{refl}
use borrow.Author.Tests.{lt-ltb, le-ltb}
use Rattle.first_clear.specs.Known.{via_route}
use Rattle.first_clear.proofs.near.via_outcome.Goals as goal

pub returns-then-note-lt4096 : goal.returns-then-note-lt4096
unfolding via_route
returns-then-note-lt4096 c = rw (lt-ltb c.args.note 4096 c.if-note-lt4096.true) refl

pub returns : goal.returns
unfolding via_route
returns c = rw (le-ltb c.args.note 4096 c.if-note-lt4096.false) refl
