use borrow.Author.Rules.{rules}
use lib.ListN.{get_or}
use Rattle.routes.specs.Layout.{no_entry}
use Rattle.route_value.specs.Writing.{route_entries, sheet_of}
use Rattle.route_value.proofs.encode.encode.Goals as goal

pub returns : goal.returns
unfolding sheet_of route_entries
returns c = c.encode_by.ensures (λ k. get_or c.args.routes.entries k no_entry) (λ i e b p. search rules)
