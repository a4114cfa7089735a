use native.Mathlib.Omega.{arith}
use mathlib.Core.Path.{sym, ◌∙◌}
use Rattle.search.proofs.Clip.{rows_fit}
use Rattle.notes.proofs.Knowing.{rows_missing, to_part, part_to, put_twice}
use Rattle.notes.proofs.sets_of.put_part.Goals as goal

both : {A B : Type 0} → A × B → record { by_index : A; elsewhere : B }
both p = record { by_index = p.0; elsewhere = p.1 }

pub returns-then-not-has_rows : goal.returns-then-not-has_rows
returns-then-not-has_rows c = record { by_index = λ p s n at k room. absurd (rows_missing _ _ _ _ c.has_rows.ensures c.if-not-has_rows.true room); elsewhere = λ room. absurd (rows_missing _ _ _ _ c.has_rows.ensures c.if-not-has_rows.true room) }

pub overflow_add-at : goal.overflow_add-at
overflow_add-at c = let room = rows_fit _ _ _ (sym c.has_rows.ensures ∙ c.if-not-has_rows.false) in omega (arith, room)

pub returns : goal.returns
returns c = both (let room = rows_fit _ _ _ (sym c.has_rows.ensures ∙ c.if-not-has_rows.false) in let f = c.put_rows.ensures (omega (arith, room)) in let g = c.put_rows-2.ensures (omega (arith, room, f.rest.long)) in (λ p s n at k _. part_to p k.of_plan.plan n _ _ _ _ _ _ _ _ _ room f g (to_part p s _ _ k.of_plan n at k.node _ _ _ _ _ _ k.adaptive c.clear_in-first.ensures) (to_part p s _ _ k.of_plan n at k.node _ _ _ _ _ _ k.deterministic c.clear_in-second.ensures), λ _. put_twice _ _ _ _ _ _ f g))
