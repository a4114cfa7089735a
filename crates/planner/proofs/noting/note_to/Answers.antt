use native.Mathlib.Omega.{arith}
use mathlib.Core.Path.{sym, ◌∙◌}
use borrow.Author.Tests.{eqb-true, eqb-false}
use Rattle.planner.proofs.Destination.{dest_small, bit_at, direct_note, dead_note, clear_apart, dead_apart, not_direct, note_losses, note_sets}
use Rattle.planner.proofs.noting.note_to.Goals as goal

pub returns-then-has : goal.returns-then-has
returns-then-has c = let k = c.args.target.now in let g = k.source.now.ready in let bit = bit_at g k.node_at _ _ (c.has.ensures (omega arith)) in record { note_to = λ _. direct_note g k.node_at _ bit c.if-has.true; to_between = λ _ c' _. absurd (clear_apart g k.node_at _ bit c.if-has.true c') }

pub bounds-known-target : goal.bounds-known-target
bounds-known-target c = let k = c.args.target.now in dest_small k.source.now.ready k.node_at

pub returns-then-known-target-ne0 : goal.returns-then-known-target-ne0
returns-then-known-target-ne0 c = let k = c.args.target.now in let g = k.source.now.ready in record { note_to = λ _. dead_note g k.node_at c.if-known-target-ne0.true; to_between = λ _ _ d. absurd (dead_apart g k.node_at c.if-known-target-ne0.true d) }

pub returns-then-is_empty : goal.returns-then-is_empty
returns-then-is_empty c = let k = c.args.target.now in let source = k.source.now in let g = source.ready in let direct = not_direct g k.node_at _ (bit_at g k.node_at _ _ (c.has.ensures (omega arith))) c.if-has.false in let told = c.note_by_losses.ensures _ _ _ (note_losses g k.node_at source.known.weighed direct c.ends-ends.ensures _ (bit_at g k.node_at _ _ (c.has-straight.ensures (omega arith))) _ (c.requires (eqb-true _ 0 (sym c.is_empty.ensures ∙ c.if-is_empty.true)))) (omega (arith, c.told-run)) in record { note_to = λ _. told.0; to_between = λ _ _ _. told.1 }

pub returns : goal.returns
returns c = let k = c.args.target.now in let source = k.source.now in let g = source.ready in let direct = not_direct g k.node_at _ (bit_at g k.node_at _ _ (c.has.ensures (omega arith))) c.if-has.false in let ne = eqb-false _ 0 (sym c.is_empty.ensures ∙ c.if-is_empty.false) in record { note_to = λ sets. c.note_by_sets.ensures _ _ (note_sets g k.node_at source.known.weighed direct c.ends-ends.ensures _ (bit_at g k.node_at _ _ (c.has-straight.ensures (omega arith))) sets ne); to_between = λ z _ _. absurd (ne z) }
