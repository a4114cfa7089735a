use mathlib.Core.Path.{◌≡◌, refl, sym, ◌∙◌}
use native.Mathlib.Omega.{arith}
use Rattle.search.proofs.Clip.{rows_fit}
use Rattle.notes.proofs.Knowing.{put_none, put_next, rows_missing}
use Rattle.notes.proofs.sets_of.put_rows.Goals as goal

pub returns-then-not-has_rows : goal.returns-then-not-has_rows
returns-then-not-has_rows c = λ room. absurd (rows_missing _ _ _ _ c.has_rows.ensures c.if-not-has_rows.true room)

pub loop-i-init : goal.loop-i-init
loop-i-init c = (rows_fit _ _ _ (sym c.has_rows.ensures ∙ c.if-not-has_rows.false), put_none _ _ _)

pub loop-i-preserved : goal.loop-i-preserved
loop-i-preserved c = let p = c.loop-i.invariant in (p.0, put_next _ _ _ _ _ _ p.1 (omega (arith, p.0)) refl)

pub returns : goal.returns
returns c = let e : c.loop-i.i ≡ 256 = omega arith in λ _. rw (← e) c.loop-i.invariant.1
