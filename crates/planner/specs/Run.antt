-- Writing the sheets by runs: as many whole ones a call as the lent bytes take.
use Rattle.std.specs.Prelude.{ℕ, zero, suc, ◌*◌, ◌-◌, ◌≡◌, Bool, true, false, not, cond, ◌&&◌, List, [], ◌∷◌, ◌++◌, length, drop, ltb, eqb, Result, Ok, Err}
use Rattle.numbers.specs.Numbers.{node_outside, output_short}
use Rattle.numbers.specs.declared.Refusal.TheVariants.{OutputShort}
use Rattle.numbers.specs.Refusals.{number, refusal}
use Rattle.theory.specs.Checks.{declined, ◌then◌}
use Rattle.machine.specs.Number.{node_count}
use Rattle.machine.specs.Node.{is_node}
use Rattle.plan.specs.Layout.{shape_of}
use Rattle.plan.specs.Checks.{large, plan_error}
use Rattle.plan.specs.Reading.{is_plan}
use Rattle.planned_sheet.specs.Sheet.{source_error, planned_sheet}
use Rattle.planner.specs.Known.{Filled}
use Rattle.planner.specs.declared.run.Run.{Run}
use Rattle.planner.specs.declared.run.RunRefusal.{RunRefusal}
use Rattle.planner.specs.declared.run.RunRefusal.TheVariants.{Refused, FewWords}

-- Of the n boards from S on, the sheets of the sound ones, in rising order, that `room` bytes take: up to the first that does not fit.
unfoldable pub run_sheets : List ℕ → ℕ → ℕ → ℕ → List (List ℕ)
run_sheets p S zero room = []
run_sheets p S (suc n) room =
    let s = planned_sheet large p S in
    cond (eqb (source_error large p S) 0)
    (cond (ltb room (length s)) [] (s ∷ run_sheets p (suc S) n (room - length s)))
    (run_sheets p (suc S) n room)

-- The first of these boards whose sheet is not among them; where there is none, the board behind them all. A dead board has no sheet.
unfoldable pub run_next : List ℕ → ℕ → ℕ → ℕ → ℕ
run_next p S zero room = S
run_next p S (suc n) room =
    let s = planned_sheet large p S in
    cond (eqb (source_error large p S) 0)
    (cond (ltb room (length s)) S (run_next p (suc S) n (room - length s)))
    (run_next p (suc S) n room)

-- Sheets one behind the other.
unfoldable pub joined : List (List ℕ) → List ℕ
joined [] = []
joined (s ∷ ss) = s ++ joined ss

abbrev pub boards : List ℕ → ℕ
boards p = node_count (shape_of p)

-- The bytes of the run from a board of the plan on.
unfoldable pub run_bytes : List ℕ → ℕ → ℕ → List ℕ
run_bytes p from room = joined (run_sheets p from (boards p - from) room)

unfoldable pub run_of : List ℕ → ℕ → ℕ → Run
run_of p from room = record { size = length (run_bytes p from room); next = run_next p from (boards p - from) room }

-- The lent bytes afterwards: those past the run are untouched.
unfoldable pub run_after : List ℕ → ℕ → List ℕ → List ℕ
run_after p from o = run_bytes p from (length o) ++ drop (length (run_bytes p from (length o))) o

-- A run from a board on, which turns the lent bytes o into t.
pub record RunMade (p : List ℕ) (from : ℕ) (o : List ℕ) (r : Run) (t : List ℕ) : Type 0 where
  pub run : r ≡ run_of p from (length o)
  pub bytes : t ≡ run_after p from o

-- The plan's checks, then 9 of the board.
unfoldable pub run_error : List ℕ → ℕ → ℕ
run_error p from =
    plan_error large p
    -- a node number outside the plan
    then declined (not (is_node (shape_of p) from)) node_outside
    then 0

-- The workspace has 512 words a board.
abbrev pub few_words : List ℕ → ℕ → Bool
few_words p words = ltb words (512 * boards p)

-- No sheet was written, and one is left: the first that is left does not fit.
abbrev pub none_fits : List ℕ → Run → Bool
none_fits p run = eqb run.size 0 && ltb run.next (boards p)

-- The answer of a run with a workspace of so many words, into so many bytes.
unfoldable pub run_answer : List ℕ → ℕ → ℕ → ℕ → Result Run RunRefusal
run_answer p from words room =
    cond (eqb (run_error p from) 0)
    (cond (few_words p words) (Err FewWords) (cond (none_fits p (run_of p from room)) (Err (Refused OutputShort)) (Ok (run_of p from room))))
    (Err (Refused (refusal (run_error p from))))

-- The number of the refusal; 0 where there is none, or the workspace is too small.
abbrev pub run_number : {A : Type 0} → Result A RunRefusal → ℕ
run_number (Ok run) = 0
run_number (Err (Refused e)) = number e
run_number (Err FewWords) = 0

-- The number of that answer.
unfoldable pub answer_of : List ℕ → ℕ → ℕ → ℕ → ℕ
answer_of p from words room =
    cond (eqb (run_error p from) 0)
    (cond (few_words p words) 0 (cond (none_fits p (run_of p from room)) output_short 0))
    (run_error p from)

-- Whether all these checks pass: only then may the workspace and the lent bytes change.
unfoldable pub passes : List ℕ → ℕ → ℕ → Bool
passes p from words = eqb (run_error p from) 0 && not (few_words p words)

unfoldable pub run_output : List ℕ → ℕ → ℕ → List ℕ → List ℕ
run_output p from words o = cond (passes p from words) (run_after p from o) o

-- A run from the board `from` on, with the workspace w and the lent bytes o, which answers r and leaves them as v and t.
pub record RunWritten (p : List ℕ) (from : ℕ) (w o : List ℕ) (r : Result Run RunRefusal) (v t : List ℕ) : Type 0 where
  pub answer : r ≡ run_answer p from (length w) (length o)
  pub number : run_number r ≡ answer_of p from (length w) (length o)
  pub output : t ≡ run_output p from (length w) o
  -- What the workspace holds after a run that passes is left open.
  pub kept : passes p from (length w) ≡ false → v ≡ w

-- Making the sets to all boards in the workspace w, which answers r and leaves it as v.
pub record SetsMade (p w : List ℕ) (r : Bool) (v : List ℕ) : Type 0 where
  pub answer : r ≡ (is_plan large p && not (few_words p (length w)))
  pub long : length v ≡ length w
  pub made : r ≡ true → Filled p v
  pub kept : r ≡ false → v ≡ w
