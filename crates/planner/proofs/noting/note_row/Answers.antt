use native.Mathlib.Omega.{arith}
use mathlib.Core.Path.{refl, ◌∙◌}
use Rattle.planner.proofs.NearRows.{row_taken}
use Rattle.planner.proofs.EachNote.{same_noting, is_at, level_word, row_fits, in_row, row_full}
use Rattle.planner.proofs.noting.note_row.Goals as goal

pub bounds-outward-z : goal.bounds-outward-z
bounds-outward-z c = let o = c.args.outward.now in omega (arith, row_fits o.source.now.ready o.skip.now _ _ _ c.requires.y_lt_y.0 c.requires.y_lt_y.1 c.requires.y_lt_y.2)

pub returns-then-left-eq0 : goal.returns-then-left-eq0
returns-then-left-eq0 c = let o = c.args.outward.now in record { noting_2 = row_full o.source.now.ready o.skip.now _ _ _ c.requires.y_lt_y.0 c.requires.y_lt_y.1 c.requires.y_lt_y.2 _ c.others-left.ensures.1 c.others-left.ensures.0 c.if-left-eq0.true _ _ c.requires.noting; near_len_2 = c.requires.near_len }

pub shared_ref_as_front-row : goal.shared_ref_as_front-row
shared_ref_as_front-row c = let o = c.args.outward.now in let at = is_at o.source.now.ready _ (in_row o.source.now.ready o.skip.now _ _ _ c.requires.y_lt_y.0 c.requires.y_lt_y.1 c.requires.y_lt_y.2) _ refl in omega (arith, (c.sift_row-count.ensures.near_row _ at c.requires.near_len).few, c.sift_row-count.ensures.near_len, c.requires.near_len)

pub invariant_of-row : goal.invariant_of-row
invariant_of-row c = let o = c.args.outward.now in let at = is_at o.source.now.ready _ (in_row o.source.now.ready o.skip.now _ _ _ c.requires.y_lt_y.0 c.requires.y_lt_y.1 c.requires.y_lt_y.2) _ refl in record { inside = (c.requires.y_lt_y.0, c.requires.y_lt_y.1); hops = c.requires.y_lt_y.2; near_row = row_taken _ _ _ _ _ _ _ _ (omega (arith, (c.sift_row-count.ensures.near_row _ at c.requires.near_len).few, c.sift_row-count.ensures.near_len, c.requires.near_len)) (c.sift_row-count.ensures.near_row _ at c.requires.near_len) }

pub loop-k-init : goal.loop-k-init
loop-k-init c = c.requires.noting

pub note_word-requires : goal.note_word-requires
note_word-requires c = let o = c.args.outward.now in record { level = omega arith; level_word = level_word o.source.now.ready o.skip.now _ _ _ c.requires.y_lt_y.0 c.requires.y_lt_y.1 c.requires.y_lt_y.2 o.xs.now _ _ _ (o.in_x _ (omega arith)) c.others-left.ensures.1 c.others-left.ensures.0 refl; noting = c.loop-k.invariant }

pub loop-k-preserved : goal.loop-k-preserved
loop-k-preserved c = c.note_word.ensures

pub returns : goal.returns
returns c = record { noting_2 = same_noting _ _ _ _ _ _ _ _ (omega arith) c.loop-k.invariant; near_len_2 = c.sift_row-count.ensures.near_len ∙ c.requires.near_len }
