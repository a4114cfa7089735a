use Prim.Native.Nat.{◌+◌, ◌<◌}
use native.Mathlib.Omega.{arith}
use mathlib.Core.Path.{◌∙◌}
use Rattle.planner.proofs.EachNote.{goes_on, same_noting, due, to_row}
use Rattle.planner.proofs.noting.note_plane.Goals as goal

pub loop-y-init : goal.loop-y-init
loop-y-init c = let o = c.args.outward.now in let n = c.new-y-items.ensures in rw c.into_iter-y-iterator.ensures.into_iter_gives (n.0, n.1, n.2.most, λ l. (n.2.set l).1, c.requires.near_len, to_row o.source.now.ready o.skip.now _ _ _ c.requires.z_lt_z.0 c.requires.z_lt_z.1 0 _ (omega arith) n.2.most (λ i a b. n.2.skip i a b) _ _ (same_noting _ _ _ _ _ _ _ _ (omega arith) c.requires.noting))

pub note_row-requires : goal.note_row-requires
note_row-requires c = let o = c.args.outward.now in let i = c.loop-y.invariant in let s = c.in-Some.ensures.steps.2 in let low : c.in-Some.y < 16 = omega (arith, s.1, i.1) in record { near_len = i.4; y_lt_y = due o.source.now.ready o.skip.now _ _ _ c.requires.z_lt_z.0 c.requires.z_lt_z.1 c.in-Some.y low (rw s.0 (i.3 (omega (arith, s.0, low)))); noting = same_noting _ _ _ _ _ _ _ _ (omega (arith, s.0)) i.5 }

pub loop-y-preserved : goal.loop-y-preserved
loop-y-preserved c = let o = c.args.outward.now in let i = c.loop-y.invariant in let t = c.in-Some.ensures.steps in let s = t.2 in let low : c.in-Some.y < 16 = omega (arith, s.1, i.1) in let n = rw i.0 at s.2 in (t.0 ∙ i.0, t.1 ∙ i.1, n.most, λ l. (n.set l).1, c.note_row.ensures.near_len_2, to_row o.source.now.ready o.skip.now _ _ _ c.requires.z_lt_z.0 c.requires.z_lt_z.1 (c.in-Some.y + 1) _ (omega (arith, goes_on _ _ _ n low)) n.most (λ i a b. n.skip i a b) _ _ (same_noting _ _ _ _ _ _ _ _ (omega arith) c.note_row.ensures.noting_2))

pub returns : goal.returns
returns c = let i = c.loop-y.invariant in record { noting_2 = same_noting _ _ _ _ _ _ _ _ (omega (arith, c.in-None.ensures.steps.2, i.1, i.2)) i.5; near_len_2 = i.4 }
