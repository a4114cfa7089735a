-- The code's own steps.
use Rattle.std.specs.Prelude.{ℕ, ◌≤◌, ◌<◌, ◌≡◌, Bool, not, cond, ◌&&◌, List, ◌++◌, length, drop, ltb, eqb, Option, Some, None, Result, Ok, Err}
use Rattle.numbers.specs.Numbers.{node_outside, dead_end}
use Rattle.numbers.specs.declared.Refusal.TheVariants.{OutputShort}
use Rattle.numbers.specs.Refusals.{refusal}
use Rattle.theory.specs.Checks.{declined, ◌then◌}
use Rattle.plan.specs.Checks.{large}
use Rattle.planned_sheet.specs.Sheet.{source_error, planned_sheet}
use Rattle.planner.specs.Run.{boards, run_error, few_words}
use Rattle.planner.specs.declared.run.Run.{Run}
use Rattle.planner.specs.declared.run.RunRefusal.{RunRefusal}
use Rattle.planner.specs.declared.run.RunRefusal.TheVariants.{Refused, FewWords}

-- The first check that declines: of a plan's, which give e, then 9, then 10.
unfoldable pub first_error : ℕ → Bool → Bool → ℕ
first_error e known dead =
    e
    then declined (not known) node_outside
    then declined dead dead_end
    then 0

-- The boards of the plan, where no check declines a run from one of them on and a workspace of so many words is enough.
unfoldable pub boards_for : List ℕ → ℕ → ℕ → Result ℕ RunRefusal
boards_for p from words =
    cond (eqb (run_error p from) 0)
    (cond (few_words p words) (Err FewWords) (Ok (boards p)))
    (Err (Refused (refusal (run_error p from))))

-- The answer with `all` boards: 12 where nothing was written and a sheet is left.
unfoldable pub ended : Run → ℕ → Result Run RunRefusal
ended run all = cond (eqb run.size 0 && ltb run.next all) (Err (Refused OutputShort)) (Ok run)

-- A board's turn in a run, which turns the lent bytes o into t: the bytes of its sheet, none where it is dead, and nothing where it does not fit.
pub record Boarded (p : List ℕ) (S : ℕ) (o : List ℕ) (r : Option ℕ) (t : List ℕ) : Type 0 where
  pub dead : (source_error large p S ≡ 0 → ⊥) → (r ≡ Some 0) × (t ≡ o)
  pub fits : source_error large p S ≡ 0 → length (planned_sheet large p S) ≤ length o → (r ≡ Some (length (planned_sheet large p S))) × (t ≡ planned_sheet large p S ++ drop (length (planned_sheet large p S)) o)
  pub full : source_error large p S ≡ 0 → length o < length (planned_sheet large p S) → (r ≡ None) × (t ≡ o)
