use Rattle.routes.specs.declared.layout.Entry.{Entry}
use mathlib.Core.Path.{ap}
use Rattle.listing_text.proofs.line.kind_of.Goals as goal

pub returns : goal.returns
returns c = ap (λ (e : Entry). e.kind) c.entry_for-entry.ensures
