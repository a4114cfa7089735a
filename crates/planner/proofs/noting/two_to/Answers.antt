use native.Mathlib.Omega.{arith}
use mathlib.Core.Path.{sym, ◌∙◌}
use borrow.Author.Tests.{eqb-true, eqb-false}
use Rattle.planner.proofs.Destination.{dest_small, bit_at, clear_apart, alive, dead_two, pairing, sets_to, between_in}
use Rattle.planner.proofs.noting.two_to.Goals as goal

pub returns-then-has : goal.returns-then-has
returns-then-has c = λ _ _ direct _. let k = c.args.target.now in let g = k.source.now.ready in absurd (clear_apart g k.node_at _ (bit_at g k.node_at _ _ (c.has.ensures (omega arith))) c.if-has.true direct)

pub bounds-known-i : goal.bounds-known-i
bounds-known-i c = let k = c.args.target.now in dest_small k.source.now.ready k.node_at

pub returns-then-known-i-ne0 : goal.returns-then-known-i-ne0
returns-then-known-i-ne0 c = λ _ _ direct _. let k = c.args.target.now in dead_two k.source.now.ready k.node_at c.if-known-i-ne0.true direct

pub bounds-notes-i : goal.bounds-notes-i
bounds-notes-i c = let k = c.args.target.now in dest_small k.source.now.ready k.node_at

pub returns-then-notes-i-lt4096 : goal.returns-then-notes-i-lt4096
returns-then-notes-i-lt4096 c = λ _ _ _ over. absurd (omega (arith, c.if-notes-i-lt4096.true))

pub returns-then-is_empty : goal.returns-then-is_empty
returns-then-is_empty c = λ _ noted direct over. let k = c.args.target.now in let g = k.source.now.ready in c.two_vias.ensures _ _ _ (pairing g k.node_at direct _ c.box_of-between.ensures _ 0 (omega (arith, c.told-run)) (c.requires (eqb-true _ 0 (sym c.is_empty.ensures ∙ c.if-is_empty.true)) direct (alive g k.node_at c.if-known-i-ne0.false)) _ noted over)

pub returns : goal.returns
returns c = λ sets noted direct over. let k = c.args.target.now in let g = k.source.now.ready in let both = sets_to g k.node_at sets (eqb-false _ 0 (sym c.is_empty.ensures ∙ c.if-is_empty.false)) in c.two_vias-2.ensures _ _ _ (pairing g k.node_at direct _ c.box_of-between.ensures _ _ (omega (arith, both.room)) (between_in g k.node_at _ _ both) _ noted over)
