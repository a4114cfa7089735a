-- The code's own steps.
use Rattle.std.specs.Prelude.{ℕ, ◌+◌, not, List, length, ltb, Option, Some, None}
use Rattle.numbers.specs.Numbers.{plan_short, plan_version_unknown, many_faults, wrong_length}
use Rattle.theory.specs.Checks.{declined, ◌then◌}
use Rattle.sheet.specs.Head.{length_is}
use Rattle.plan.specs.Layout.{layout_in, size_after, fault_count}
use Rattle.plan.specs.declared.layout.Fault.{Fault}
use Rattle.plan.specs.Checks.{most_faults, fault_key}

-- Checks 1 to 4.
unfoldable pub head_error : List ℕ → ℕ
head_error s =
    declined (ltb (length s) (layout_in s).head_size) plan_short
    then declined (not (layout_in s).known) plan_version_unknown
    then declined (ltb most_faults (fault_count s)) many_faults
    then declined (not (length_is s (size_after (layout_in s) (fault_count s)))) wrong_length
    then 0

-- The least key that a fault may have behind the one before it.
abbrev pub least_after : Option Fault → ℕ
least_after None = 0
least_after (Some f) = fault_key f + 1
