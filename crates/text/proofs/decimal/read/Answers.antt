use Rattle.std.proofs.Common.{sym, ◌∙◌, arith}
use Rattle.text.proofs.Decimals.{no_digits, begins, turn, declined, small, ends}
use Rattle.text.proofs.decimal.read.Goals as goal

pub returns-then-is_empty-clause-value : goal.returns-then-is_empty-clause-value
returns-then-is_empty-clause-value c = no_digits _ _ (grind arith)

pub loop-b-init : goal.loop-b-init
loop-b-init c = record { small = omega arith; same = begins _ _ (λ e. grind arith) }

pub returns-in_err-value-clause-value : goal.returns-in_err-value-clause-value
returns-in_err-value-clause-value c =
    rw c.from_residual.ensures (sym (c.loop-b.invariant.same ∙ declined _ _ _ _ c.loop-b-test.true (sym c.longer.ensures ∙ c.in_err-value.was)))

pub loop-b-preserved : goal.loop-b-preserved
loop-b-preserved c = let more = sym c.longer.ensures ∙ c.in_ok-value.was in
    record { small = small _ _ _ _ more; same = c.loop-b.invariant.same ∙ turn _ _ _ _ c.loop-b-test.true _ more }

pub returns-clause-value : goal.returns-clause-value
returns-clause-value c = sym (c.loop-b.invariant.same ∙ ends _ _ _ _ c.loop-b-test.false c.loop-b.invariant.small)
