use native.Mathlib.Omega.{arith}
use Prim.Native.Nat.{◌+◌, ◌<◌}
use mathlib.Core.Path.{◌∙◌}
use Rattle.planner.proofs.EachNote.{goes_on, same_noting, free, free_rank, to_next}
use Rattle.planner.proofs.noting.note_word.Goals as goal

pub loop-x-init : goal.loop-x-init
loop-x-init c = let row = c.args.row.now in let o = row.outward.now in let n = c.new-x-items.ensures in rw c.into_iter-x-iterator.ensures.into_iter_gives (n.0, n.1, n.2.most, λ l. (n.2.set l).1, to_next o.source.now.ready o.skip.now _ _ _ row.inside.0 row.inside.1 row.hops _ _ 0 _ c.requires.level c.requires.level_word (omega arith) n.2.most (λ i a b. n.2.skip i a b) _ _ c.requires.noting)

pub note_node-requires : goal.note_node-requires
note_node-requires c = let row = c.args.row.now in let o = row.outward.now in let i = c.loop-x.invariant in let s = c.in-Some.ensures.steps.2 in let low : c.in-Some.x < 16 = omega (arith, s.1, i.1) in let f = free o.source.now.ready o.skip.now _ _ _ row.inside.0 row.inside.1 row.hops _ _ c.requires.level_word c.in-Some.x low (rw s.0 (i.3 (omega (arith, s.0, low)))) in record { inside = (f.inside, f.clear_of); noting = same_noting _ _ _ _ _ _ _ _ (omega (arith, s.0, free_rank o.source.now.ready o.skip.now _ _ _ row.inside.0 row.inside.1 row.hops _ _ f)) i.4 }

pub loop-x-preserved : goal.loop-x-preserved
loop-x-preserved c = let row = c.args.row.now in let o = row.outward.now in let i = c.loop-x.invariant in let t = c.in-Some.ensures.steps in let s = t.2 in let low : c.in-Some.x < 16 = omega (arith, s.1, i.1) in let f = free o.source.now.ready o.skip.now _ _ _ row.inside.0 row.inside.1 row.hops _ _ c.requires.level_word c.in-Some.x low (rw s.0 (i.3 (omega (arith, s.0, low)))) in let e = free_rank o.source.now.ready o.skip.now _ _ _ row.inside.0 row.inside.1 row.hops _ _ f in let n = rw i.0 at s.2 in (t.0 ∙ i.0, t.1 ∙ i.1, n.most, λ l. (n.set l).1, to_next o.source.now.ready o.skip.now _ _ _ row.inside.0 row.inside.1 row.hops _ _ (c.in-Some.x + 1) _ c.requires.level c.requires.level_word (omega (arith, goes_on _ _ _ n low)) n.most (λ i a b. n.skip i a b) _ _ (same_noting _ _ _ _ _ _ _ _ (omega (arith, e)) c.note_node.ensures))

pub returns : goal.returns
returns c = let i = c.loop-x.invariant in same_noting _ _ _ _ _ _ _ _ (omega (arith, c.in-None.ensures.steps.2, i.1, i.2)) i.4
