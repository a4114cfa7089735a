use mathlib.Core.Path.{sym, ◌∙◌}
use borrow.Author.Tests.{lt-ltb, le-ltb}
use Rattle.plan.specs.Steps.{head_error}
use Rattle.plan.proofs.checks.check_head.Goals as goal

pub returns-then-sheet-head_size : goal.returns-then-sheet-head_size
unfolding head_error
returns-then-sheet-head_size c = rw (← c.version_in-version.ensures, ← c.head_size.ensures.0, lt-ltb _ _ c.if-sheet-head_size.true)

pub returns-then-not-is_known : goal.returns-then-not-is_known
unfolding head_error
returns-then-not-is_known c = rw (← c.version_in-version.ensures, ← c.head_size.ensures.0, le-ltb _ _ c.if-sheet-head_size.false, ← c.is_known.ensures, c.if-not-is_known.true)

pub returns-then-count-gt-MOST_FAULTS : goal.returns-then-count-gt-MOST_FAULTS
unfolding head_error
returns-then-count-gt-MOST_FAULTS c = rw (← c.version_in-version.ensures, ← c.head_size.ensures.0, le-ltb _ _ c.if-sheet-head_size.false, ← c.is_known.ensures, c.if-not-is_known.false, ← c.count_in-count.ensures, lt-ltb _ _ c.if-count-gt-MOST_FAULTS.true)

pub returns-then-not-length_is : goal.returns-then-not-length_is
unfolding head_error
returns-then-not-length_is c =
    let lent = rw (c.size_after.ensures, c.version_in-version.ensures, c.count_in-count.ensures) at (sym c.length_is.ensures ∙ c.if-not-length_is.true) in
    rw (lent, ← c.version_in-version.ensures, ← c.head_size.ensures.0, le-ltb _ _ c.if-sheet-head_size.false, ← c.is_known.ensures, c.if-not-is_known.false, ← c.count_in-count.ensures, le-ltb _ _ c.if-count-gt-MOST_FAULTS.false)

pub returns : goal.returns
unfolding head_error
returns c =
    let lent = rw (c.size_after.ensures, c.version_in-version.ensures, c.count_in-count.ensures) at (sym c.length_is.ensures ∙ c.if-not-length_is.false) in
    rw (lent, ← c.version_in-version.ensures, ← c.head_size.ensures.0, le-ltb _ _ c.if-sheet-head_size.false, ← c.is_known.ensures, c.if-not-is_known.false, ← c.count_in-count.ensures, le-ltb _ _ c.if-count-gt-MOST_FAULTS.false)
