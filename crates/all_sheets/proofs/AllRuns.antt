-- All runs of a plan: they go on, and give all sheets.
use Prim.Native.Nat.{ℕ, zero, suc, ◌+◌, ◌*◌, ◌-◌, ◌≤◌, ◌<◌}
use native.Mathlib.Nat.{mul-pos}
use native.Mathlib.Omega.{arith}
use mathlib.Core.Path.{◌≡◌, refl, sym, ap, ◌∙◌}
use mathlib.Core.Bool.{Bool, true, false, cond, true≢false}
use mathlib.Core.List.{List, [], ◌++◌, append-nil}
use lib.ListN.{length, take, replicate, length-replicate}
use lib.Seq.{take-append_seam}
use lib.Dec.{eqb, ltb}
use borrow.Author.Tests.{eq-eqb, eqb-true, lt-ltb, le-ltb, ltb-true}
use Rattle.std.specs.Prelude.{Result, Ok, Err}
use Rattle.numbers.specs.declared.Refusal.{Refusal}
use Rattle.numbers.specs.declared.Refusal.TheVariants.{OutputShort}
use Rattle.numbers.specs.Refusals.{refusal}
use Rattle.theory.proofs.Cases.{test, by_le}
use Rattle.theory.proofs.Bools.{and_true}
use Rattle.shape.specs.declared.shape.Dim.TheVariants.{X, Y, Z}
use Rattle.shape.proofs.Shapes.{sound}
use Rattle.machine.specs.Number.{node_count}
use Rattle.plan.specs.Layout.{shape_of}
use Rattle.plan.specs.Checks.{large, torus_plans, plan_error}
use Rattle.routes.specs.Layout.{most_bytes}
use Rattle.plan.proofs.Plans.{accepted}
use Rattle.planner.specs.declared.run.Run.{Run}
use Rattle.planner.specs.declared.run.RunRefusal.{RunRefusal}
use Rattle.planner.specs.declared.run.RunRefusal.TheVariants.{Refused, FewWords}
use Rattle.all_sheets.specs.All.{left, all_sheets}
use Rattle.planner.specs.Run.{run_next, joined, boards, run_bytes, run_of, run_after, run_error, few_words, none_fits, run_answer, passes, run_output}
use Rattle.all_sheets.specs.Runs.{Ran, Runs, last, onward}
use Rattle.planner.proofs.Checking.{accepted_run, board_of, board_error}
use Rattle.all_sheets.proofs.Leaving.{next_within, next_same, next_left, none_left, run_left_bytes}

by_answer :
    (a b d : Bool) (e : Refusal) (x r : Run) → ◌≡◌ {A = Result Run RunRefusal} (cond a (cond b (Err FewWords) (cond d (Err (Refused OutputShort)) (Ok x))) (Err (Refused e))) (Ok r) →
    (a ≡ true) × (b ≡ false) × (d ≡ false) × (r ≡ x)
by_answer true false false e x r h = (refl, refl, refl, cc)
by_answer true false true e x r h = let z : ◌≡◌ {A = ℕ} 0 1 = cc in absurd (omega arith)
by_answer true true d e x r h = let z : ◌≡◌ {A = ℕ} 0 1 = cc in absurd (omega arith)
by_answer false b d e x r h = let z : ◌≡◌ {A = ℕ} 0 1 = cc in absurd (omega arith)

-- ---- a run that is written
module _ (p : List ℕ) (from words room : ℕ) (r : Run) (h : run_answer p from words room ≡ Ok r) where
  cases : (eqb (run_error p from) 0 ≡ true) × (few_words p words ≡ false) × (none_fits p (run_of p from room) ≡ false) × (r ≡ run_of p from room)
  unfolding run_answer
  cases = by_answer (eqb (run_error p from) 0) (few_words p words) (none_fits p (run_of p from room)) (refusal (run_error p from)) (run_of p from room) r h

  no_error : run_error p from ≡ 0
  no_error = eqb-true (run_error p from) 0 cases.0

  pub is_run : r ≡ run_of p from room
  is_run = cases.3

  pub within : from < boards p
  within = board_of p from no_error

  abbrev end : ℕ
  end = run_next p from (boards p - from) room

  pub next_is : r.next ≡ end
  unfolding run_of
  next_is = ap (λ x. x.next) is_run

  ends : (from ≤ end) × (end ≤ from + (boards p - from))
  ends = next_within p (boards p - from) from room

  -- Where no sheet was written, no board is left.
  stays : end ≡ from → ⊥
  unfolding run_of run_bytes joined
  stays e =
      let none : length (run_bytes p from room) ≡ 0 = ap (λ x. length (joined x)) (next_same p (boards p - from) from room e) in
      let left : ltb end (boards p) ≡ true = rw e (lt-ltb from (boards p) within) in
      let z : none_fits p (run_of p from room) ≡ true = rw (eq-eqb (length (run_bytes p from room)) 0 none) left in
      true≢false (sym z ∙ cases.2)

  -- Every run goes on, so that a loop over runs ends.
  pub goes_on : (from < r.next) × (r.next ≤ boards p)
  goes_on =
      let e = next_is in
      let l : from < end = by_le end from (λ k. absurd (stays (omega (arith, ends.0)))) (λ k. k) in
      (omega (arith, e, l), omega (arith, e, ends.1, within))

  -- What it leaves in the lent bytes.
  pub run_front : (o t : List ℕ) → length o ≡ room → t ≡ run_output p from words o → take r.size t ≡ run_bytes p from room
  unfolding run_output passes run_after run_of
  run_front o t e m =
      let made : t ≡ run_after p from o = m ∙ rw (cases.0, cases.1) in
      rw (ap (λ x. x.size) is_run, made, e) (take-append_seam (run_bytes p from room) _)

  pub run_then : run_bytes p from room ++ joined (left p r.next) ≡ joined (left p from)
  run_then = rw next_is (run_left_bytes p (accepted_run p from no_error) from room (omega (arith, within)))

-- ---- all runs
runs_left : (p : List ℕ) (from : ℕ) (bytes : List ℕ) → Runs p from bytes → bytes ≡ joined (left p from)
unfolding joined
runs_left p from bytes (last {words = words} {r = r} {o = o} {t = t} g e) =
    let a = g.answer in
    let ok = accepted_run p from (no_error p from words (length o) r a) in
    let none : joined (left p r.next) ≡ [] = rw e (ap joined (none_left p ok)) in
    run_front p from words (length o) r a o t refl g.output ∙ sym (append-nil _) ∙ ap (λ x. run_bytes p from (length o) ++ x) (sym none) ∙ run_then p from words (length o) r a
runs_left p from bytes (onward {words = words} {r = r} {o = o} {t = t} {later = later} g e rs) =
    let a = g.answer in
    rw (run_front p from words (length o) r a o t refl g.output, runs_left p r.next later rs) (run_then p from words (length o) r a)

-- Runs from board 0 on, until no board is left, give the sheet of each sound board, in rising order, and nothing else.
pub all_runs : (p bytes : List ℕ) → Runs p 0 bytes → bytes ≡ joined (all_sheets p)
all_runs p bytes rs = runs_left p 0 bytes rs

-- ---- a run with words enough, and room for the longest sheet
module _ (p : List ℕ) (ok : plan_error large p ≡ 0) (words room : ℕ) (w : 512 * boards p ≤ words) (h : most_bytes ≤ room) where
  module _ (from : ℕ) (l : from < boards p) where
    some_fits : none_fits p (run_of p from room) ≡ false
    unfolding run_of run_bytes
    some_fits =
        let run = run_of p from room in
        test (none_fits p run)
        (λ e.
        let k = and_true (eqb run.size 0) (ltb run.next (boards p)) e in
        absurd (omega (arith, eqb-true run.size 0 k.0, next_left p (boards p - from) from room h (omega (arith, ltb-true run.next (boards p) k.1)))))
        (λ e. e)

    -- It is written.
    pub always_written : run_answer p from words room ≡ Ok (run_of p from room)
    unfolding run_answer
    always_written = rw (eq-eqb (run_error p from) 0 (board_error p from ok l), le-ltb words (512 * boards p) w, some_fits)

  runs_from : (n from : ℕ) → boards p - from ≤ n → from < boards p → Runs p from (joined (left p from))
  runs_from zero from k l = absurd (omega arith)
  runs_from (suc n) from k l =
      let o : List ℕ = replicate room 0 in
      let r = run_of p from room in
      let t = run_output p from words o in
      let long : length o ≡ room = length-replicate room 0 in
      let a = always_written from l in
      let g : Ran p from words r o t = record { answer = rw long a; output = refl } in
      let on = goes_on p from words room r a in
      let front = run_front p from words room r a o t long refl in
      by_le (boards p) r.next
      (λ e.
      let z : r.next ≡ boards p = omega (arith, on.1) in
      let b : Runs p from (take r.size t) = last g z in
      rw (runs_left p from (take r.size t) b) at b)
      (λ e.
      let b : Runs p from (take r.size t ++ joined (left p r.next)) = onward g e (runs_from n r.next (omega (arith, on.0)) e) in
      rw (runs_left p from (take r.size t ++ joined (left p r.next)) b) at b)

  some_board : 0 < boards p
  unfolding node_count
  some_board =
      let s = sound (shape_of p) (accepted torus_plans large p ok).shape in
      mul-pos (mul-pos (s X).low (s Y).low) (s Z).low

  -- So runs that give all sheets exist.
  pub runs_exist : Runs p 0 (joined (all_sheets p))
  runs_exist = runs_from (boards p) 0 (omega arith) some_board
