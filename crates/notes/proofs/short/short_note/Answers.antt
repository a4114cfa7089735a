use native.Mathlib.Omega.{arith}
use mathlib.Core.Path.{sym, ◌∙◌}
use Rattle.search.proofs.Clip.{rows_fit}
use Rattle.notes.proofs.Knowing.{rows_missing}
use Rattle.notes.proofs.Destination.{one_of, two_of}
use Rattle.notes.proofs.short.short_note.Goals as goal

pub overflow_add-behind : goal.overflow_add-behind
overflow_add-behind c = let room = rows_fit _ _ _ (sym c.has_rows.ensures ∙ c.if-not-has_rows.false) in omega (arith, room)

pub returns-in-Some : goal.returns-in-Some
returns-in-Some c = λ p S D g _. one_of p _ S D _ _ _ _ _ _ _ g _ _ c.lowest-first.ensures.first c.lowest-second.ensures.first _ _ c.in-Some.ensures.value c.via_note.ensures c.in-Some.ensures.node

pub returns-in-Some-lowest : goal.returns-in-Some-lowest
returns-in-Some-lowest c = λ p S D g low. two_of p _ S D _ _ _ _ _ _ _ g _ _ c.lowest-first.ensures.first c.lowest-second.ensures.first _ c.in_default.ensures.value (omega arith) _ c.in-Some-lowest.ensures.first _ c.via_note-in-Some-lowest.ensures low
