-- The route sheet written by planning from a source.
use Rattle.std.specs.Prelude.{ℕ, zero, suc, Bool, true, not, cond, List, [], ◌∷◌, eqb}
use Rattle.numbers.specs.Numbers.{node_outside, dead_end}
use Rattle.theory.specs.Checks.{declined, ◌then◌}
use Rattle.machine.specs.Number.{node_count}
use Rattle.machine.specs.Node.{is_node}
use Rattle.plan.specs.Layout.{shape_of, faults_of}
use Rattle.plan.specs.Checks.{Limits, plan_error}
use Rattle.dead.specs.Dead.{dead_node}
use Rattle.choice.specs.Choice.{det}
use Rattle.choice.specs.Answer.{Answer, Given, Refused}
use Rattle.choice.specs.Pair.{pair}
use Rattle.routes.specs.declared.layout.Entry.{Entry}
use Rattle.routes.specs.Said.{entry_for}
use Rattle.route_value.specs.Writing.{sheet_bytes}

-- A sheet to be written: the plan's checks, then 9, 10 (source only).
unfoldable pub source_error : Limits → List ℕ → ℕ → ℕ
source_error L p S =
    plan_error L p
    -- a node number outside the plan
    then declined (not (is_node (shape_of p) S)) node_outside
    -- a dead source
    then declined (dead_node (faults_of p) S) dead_end
    then 0

-- A destination not listed is direct and adaptive.
unfoldable pub lists : Answer → Bool
lists (Given []) = true
lists (Given (l ∷ [])) = not (eqb (det l.mode) 0)
lists (Given (l ∷ m ∷ ls)) = true
lists (Refused n) = true

-- The entries of n destinations from D on.
unfoldable pub entries_from : Limits → List ℕ → ℕ → ℕ → ℕ → List Entry
entries_from L p S D zero = []
entries_from L p S D (suc n) =
    let answer = pair L p S D in
    cond (lists answer) (entry_for D answer ∷ entries_from L p S (suc D) n) (entries_from L p S (suc D) n)

-- The sheet of every destination, in the format that is written.
unfoldable pub planned_sheet : Limits → List ℕ → ℕ → List ℕ
planned_sheet L p S = sheet_bytes S (entries_from L p S 0 (node_count (shape_of p)))
