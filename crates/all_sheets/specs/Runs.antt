-- All runs of a plan, one after the other.
use Rattle.std.specs.Prelude.{ℕ, ◌<◌, ◌≡◌, List, ◌++◌, length, take, Ok}
use Rattle.planner.specs.declared.run.Run.{Run}
use Rattle.planner.specs.Run.{boards, run_answer, run_output}

-- A run from the board `from` on, with a workspace of so many words, which writes r and turns the lent bytes o into t.
pub record Ran (p : List ℕ) (from words : ℕ) (r : Run) (o t : List ℕ) : Type 0 where
  pub answer : run_answer p from words (length o) ≡ Ok r
  pub output : t ≡ run_output p from words o

-- Runs from the board `from` on, until no board is left, give these bytes.
pub data Runs (p : List ℕ) : ℕ → List ℕ → Type 0 where
  last : {from words : ℕ} {r : Run} {o t : List ℕ} → Ran p from words r o t → r.next ≡ boards p → Runs p from (take r.size t)
  onward : {from words : ℕ} {r : Run} {o t later : List ℕ} → Ran p from words r o t → r.next < boards p → Runs p r.next later → Runs p from (take r.size t ++ later)
