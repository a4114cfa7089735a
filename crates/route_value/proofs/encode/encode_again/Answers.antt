use borrow.Author.Rules.{rules}
use Rattle.routes.specs.Layout.{entry_at, entries_of}
use Rattle.route_value.specs.Writing.{rewritten}
use Rattle.route_value.proofs.encode.encode_again.Goals as goal

pub returns : goal.returns
unfolding rewritten entries_of
returns c = rw (← c.source_in.ensures, ← c.count_in.ensures) (c.encode_by.ensures (entry_at c.args.sheet.now) (λ i e b p. search rules))
