-- A workspace for 4,096 boards is enough for every plan, and bytes for the longest sheet for every run.
use Prim.Native.Nat.{ℕ, ◌*◌, ◌≤◌, ◌<◌}
use native.Mathlib.Omega.{arith}
use mathlib.Core.Path.{◌≡◌, ◌∙◌}
use mathlib.Core.Bool.{Bool}
use mathlib.Core.List.{List}
use lib.ListN.{length, take}
use borrow.Author.Tests.{le-ltb, eqb-true}
use Rattle.std.specs.Prelude.{Result, Ok}
use Rattle.theory.proofs.Cases.{test}
use Rattle.sheet.specs.Input.{ReadInto}
use Rattle.shape.proofs.Shapes.{count_most}
use Rattle.machine.specs.Number.{node_count}
use Rattle.plan.specs.Layout.{shape_of}
use Rattle.plan.specs.Checks.{large, torus_plans, plan_error}
use Rattle.routes.specs.Layout.{most_bytes}
use Rattle.plan.specs.Reading.{is_plan}
use Rattle.plan.proofs.Plans.{accepted}
use Rattle.planner.specs.declared.run.Run.{Run}
use Rattle.planner.specs.declared.run.RunRefusal.{RunRefusal}
use Rattle.planner.specs.Known.{Filled}
use Rattle.planner.specs.Run.{boards, run_of, RunWritten, SetsMade}
use Rattle.all_sheets.proofs.Inputs.{of_sets}
use Rattle.all_sheets.proofs.AllRuns.{always_written}

enough : (p : List ℕ) → plan_error large p ≡ 0 → (words : ℕ) → 2097152 ≤ words → 512 * boards p ≤ words
unfolding node_count
enough p ok words l = omega (arith, count_most (shape_of p) (accepted torus_plans large p ok).shape)

pub always_made : (p w : List ℕ) (r : Bool) (v : List ℕ) → 2097152 ≤ length w → SetsMade p w r v → r ≡ is_plan large p
unfolding is_plan
always_made p w r v l g =
    g.answer ∙ test (is_plan large p)
    (λ t. rw (t, le-ltb (length w) (512 * boards p) (enough p (eqb-true (plan_error large p) 0 t) (length w) l)))
    (λ f. rw f)

always_run :
    (p : List ℕ) (from : ℕ) (w o : List ℕ) (r : Result Run RunRefusal) (v t : List ℕ) → 2097152 ≤ length w → most_bytes ≤ length o → RunWritten p from w o r v t → plan_error large p ≡ 0 → from < boards p →
    r ≡ Ok (run_of p from (length o))
always_run p from w o r v t l h g ok k = g.answer ∙ always_written p ok (length w) (length o) (enough p ok (length w) l) h from k

-- A run of a plan that was read into a buffer, with the sets to all boards.
pub input_run :
    (plan p : List ℕ) (size from : ℕ) (w o : List ℕ) (r : Result Run RunRefusal) (t : List ℕ) → 781 ≤ length plan → 2097152 ≤ length w → most_bytes ≤ length o → p ≡ take size plan →
    (Filled p w → RunWritten p from w o r w t) →
    (Filled (take size plan) w → RunWritten (take size plan) from w o r w t) × (((whole : List ℕ) → ReadInto whole plan size → Filled (take size plan) w → RunWritten whole from w o r w t)
    × (Filled (take size plan) w → plan_error large (take size plan) ≡ 0 → from < boards (take size plan) → r ≡ Ok (run_of (take size plan) from (length o))))
input_run plan p size from w o r t buffer words bytes read g =
    let run = of_sets plan p size from w o r t buffer read g in
    (run.0, (run.1, λ f. always_run (take size plan) from w o r w t words bytes (run.0 f)))
