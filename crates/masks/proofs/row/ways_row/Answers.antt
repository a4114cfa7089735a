use mathlib.Core.Path.{◌≡◌, refl, sym, ◌∙◌}
use mathlib.Core.Bool.{cond}
use native.Mathlib.Omega.{arith}
use Rattle.shape.specs.Steps.{goes}
use Rattle.machine.specs.Hop.{rule}
use Rattle.rows.specs.Bits.{row_of}
use Rattle.rows.proofs.Rowing.{turn, last}
use Rattle.masks.specs.End.{begins}
use Rattle.masks.specs.Ranges.{ways_row}
use Rattle.masks.proofs.row.ways_row.Goals as goal

pub loop-x-init : goal.loop-x-init
unfolding row_of
loop-x-init c = (c.requires, refl, refl)

pub overflow_add-row : goal.overflow_add-row
overflow_add-row c = let i = c.loop-x.invariant in let a = c.args in let w = turn (λ n. goes rule a.axis.len a.axis.ring (cond (begins a.end) a.at n) (cond (begins a.end) n a.at)) c.goes_end.result _ _ _ _ (omega arith) i.1 i.2 c.pick-row.ensures (sym c.goes_end.ensures) in omega (arith, w.fits)

pub overflow_mul-bit : goal.overflow_mul-bit
overflow_mul-bit c = let i = c.loop-x.invariant in let a = c.args in let w = turn (λ n. goes rule a.axis.len a.axis.ring (cond (begins a.end) a.at n) (cond (begins a.end) n a.at)) c.goes_end.result _ _ _ _ (omega arith) i.1 i.2 c.pick-row.ensures (sym c.goes_end.ensures) in omega (arith, w.twice)

pub loop-x-preserved : goal.loop-x-preserved
loop-x-preserved c = let i = c.loop-x.invariant in let a = c.args in let w = turn (λ n. goes rule a.axis.len a.axis.ring (cond (begins a.end) a.at n) (cond (begins a.end) n a.at)) c.goes_end.result _ _ _ _ (omega arith) i.1 i.2 c.pick-row.ensures (sym c.goes_end.ensures) in (i.0, w.next, w.more)

pub overflow_cast-result : goal.overflow_cast-result
overflow_cast-result c = let i = c.loop-x.invariant in omega (arith, last _ _ _ _ i.0 (omega arith) i.2)

pub returns : goal.returns
unfolding ways_row
returns c = let i = c.loop-x.invariant in let e : c.loop-x.x ≡ c.args.axis.len = omega arith in i.2 ∙ rw e
