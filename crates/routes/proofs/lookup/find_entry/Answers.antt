use mathlib.Core.Path.{◌≡◌}
use borrow.Author.Tests.{tests}
use Rattle.std.proofs.Common.{rules}
use Rattle.std.proofs.lemmas.Iterator.{first_from_Range}
use Rattle.routes.specs.Layout.{entry_at}
use Rattle.routes.proofs.Finding.{found_first}
use Rattle.routes.proofs.lookup.find_entry.Goals as goal

pub returns : goal.returns
returns c =
    let s = c.args.sheet.now in
    let d = c.args.dest in
    found_first s d c.count_in.result c.find.result c.count_in.ensures
    (first_from_Range _ _ _ c.find.result (λ i. (entry_at s i).dest ≡ d) (λ i. (entry_at s i).dest ≡ d → ⊥) c.find.ensures.ran
    (λ x q k. search (rules, tests))
    (λ x q k. (search rules, search (rules, tests))))
