use native.Mathlib.Omega.{arith}
use mathlib.Core.Path.{sym, ◌∙◌}
use Rattle.losses.proofs.Listing.{few, exists, ended, none_of, plan_of}
use Rattle.losses.proofs.Filling.{begin, onward, filled}
use Rattle.losses.proofs.reading.losses.Goals as goal

pub returns-then-is_err : goal.returns-then-is_err
returns-then-is_err c = none_of _ _ c.check.ensures (sym c.is_err.ensures.value ∙ c.if-is_err.true)

pub loop-i-init : goal.loop-i-init
loop-i-init c = begin _ _ _ (plan_of _ _ c.check.ensures (sym c.is_err.ensures.value ∙ c.if-is_err.false)) c.shape_in-shape.ensures c.count_in-count.ensures

pub word_of-requires : goal.word_of-requires
word_of-requires c = exists _ _ _ _ _ c.loop-i.invariant.listed _ c.fault_in.ensures c.loop-i-test.true

pub bounds-words-i : goal.bounds-words-i
bounds-words-i c = let n = few _ _ _ _ _ c.loop-i.invariant.listed in omega arith

pub loop-i-preserved : goal.loop-i-preserved
loop-i-preserved c = onward _ _ _ _ _ c.loop-i.invariant _ _ c.fault_in.ensures c.word_of.ensures c.loop-i-test.true

pub invariant_of-result-2 : goal.invariant_of-result-2
invariant_of-result-2 c = filled _ _ _ _ _ c.loop-i.invariant (omega arith)

pub returns : goal.returns
returns c = ended _ _ _ _ _ c.loop-i.invariant.listed (omega arith)
