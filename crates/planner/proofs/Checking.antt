-- The checks of a run, and its answer.
use Prim.Native.Nat.{ℕ, ◌*◌, ◌≤◌, ◌<◌}
use native.Mathlib.Omega.{arith}
use mathlib.Core.Path.{◌≡◌, refl, sym, ap, ◌∙◌}
use mathlib.Core.Bool.{Bool, true, false, not, cond, ◌&&◌, true≢false}
use mathlib.Core.List.{List}
use lib.ListN.{length}
use lib.Dec.{eqb, ltb}
use borrow.Author.Tests.{eq-eqb, ne_eqb, eqb-true, lt-ltb, le-ltb, ltb-false, not-false}
use Rattle.std.specs.Prelude.{Result, Ok, Err}
use Rattle.numbers.specs.Numbers.{node_outside, output_short}
use Rattle.numbers.specs.declared.Refusal.{Refusal}
use Rattle.numbers.specs.declared.Refusal.TheVariants.{OutputShort}
use Rattle.numbers.specs.Refusals.{number, refusal}
use Rattle.numbers.proofs.Refusals.{refusal-number}
use Rattle.sheet.proofs.Outputs.{not_0}
use Rattle.theory.proofs.Cases.{test}
use Rattle.theory.specs.Checks.{declined}
use Rattle.theory.proofs.Checks.{then_zero, declined_zero}
use Rattle.shape.specs.declared.shape.Shape.{Shape}
use Rattle.shape.specs.Shape.{shape_error}
use Rattle.machine.specs.Node.{is_node, count_answer}
use Rattle.machine.proofs.Nodes.{node_of}
use Rattle.plan.specs.Layout.{shape_of}
use Rattle.plan.specs.Checks.{large, torus_plans, plan_error}
use Rattle.plan.specs.Reading.{is_plan}
use Rattle.plan.proofs.Plans.{accepted}
use Rattle.dead.proofs.Table.{is_node_law}
use Rattle.planner.specs.declared.run.Run.{Run}
use Rattle.planner.specs.declared.run.RunRefusal.{RunRefusal}
use Rattle.planner.specs.declared.run.RunRefusal.TheVariants.{Refused, FewWords}
use Rattle.planner.specs.Run.{boards, run_of, run_after, run_error, few_words, run_answer, run_number, answer_of, passes, run_output, RunMade, RunWritten, SetsMade}
use Rattle.planner.specs.Known.{Filled}
use Rattle.planner.specs.Steps.{boards_for, ended}

pub accepted_run : (p : List ℕ) (from : ℕ) → run_error p from ≡ 0 → plan_error large p ≡ 0
unfolding run_error
accepted_run p from h = (then_zero (plan_error large p) _ h).0

-- The board of such a run is one of the plan.
pub board_of : (p : List ℕ) (from : ℕ) → run_error p from ≡ 0 → from < boards p
unfolding run_error
board_of p from h =
    let known = is_node (shape_of p) from in
    let k = (then_zero (declined (not known) node_outside) 0 (then_zero (plan_error large p) _ h).1).0 in
    (node_of (shape_of p) from (not-false known (declined_zero (not known) 8 k))).below

pub board_error : (p : List ℕ) (from : ℕ) → plan_error large p ≡ 0 → from < boards p → run_error p from ≡ 0
unfolding run_error
board_error p from h l = rw (h, is_node_law (shape_of p) from (record { sound = (accepted torus_plans large p h).shape; below = l }))

pub all_boards : (p : List ℕ) → plan_error large p ≡ 0 → (m : Shape) (all : ℕ) → m ≡ shape_of p → all ≡ count_answer m → all ≡ boards p
all_boards p h m all em ea = ea ∙ ap count_answer em ∙ rw (eq-eqb (shape_error (shape_of p)) 0 (accepted torus_plans large p h).shape)

-- ---- the boards of a run
module _ (p : List ℕ) (from words : ℕ) where
  pub refused_boards : (e : Refusal) → number e ≡ run_error p from → Err (Refused e) ≡ boards_for p from words
  unfolding boards_for
  refused_boards e q =
      let z = ne_eqb (run_error p from) 0 (λ z. not_0 e (q ∙ z)) in
      rw (z, sym q, refusal-number e) refl

  module _ (ok : run_error p from ≡ 0) (m : Shape) (all n : ℕ) (em : m ≡ shape_of p) (ea : all ≡ count_answer m) (en : n ≡ 512 * all) where
    boards_are : all ≡ boards p
    boards_are = all_boards p (accepted_run p from ok) m all em ea

    needed : n ≡ 512 * boards p
    needed = en ∙ ap (λ k. 512 * k) boards_are

    pub few_boards : words < n → Err FewWords ≡ boards_for p from words
    unfolding boards_for
    few_boards l = rw (eq-eqb (run_error p from) 0 ok, lt-ltb words (512 * boards p) (omega (arith, needed))) refl

    pub enough_boards : n ≤ words → Ok all ≡ boards_for p from words
    unfolding boards_for
    enough_boards l = rw (eq-eqb (run_error p from) 0 ok, le-ltb words (512 * boards p) (omega (arith, needed)), boards_are) refl

  -- What such a number of boards says.
  pub record Boards (all : ℕ) : Type 0 where
    pub error : run_error p from ≡ 0
    pub boards_are : all ≡ boards p
    pub enough : 512 * all ≤ words

  by_boards : (e few : Bool) (all n : ℕ) (x : RunRefusal) → ◌≡◌ {A = Result ℕ RunRefusal} (Ok all) (cond e (cond few (Err FewWords) (Ok n)) (Err x)) → (e ≡ true) × (few ≡ false) × (all ≡ n)
  by_boards true false all n x h = (refl, refl, cc)
  by_boards true true all n x h = let z : ◌≡◌ {A = ℕ} 0 1 = cc in absurd (omega arith)
  by_boards false few all n x h = let z : ◌≡◌ {A = ℕ} 0 1 = cc in absurd (omega arith)

  pub boards_known : (all : ℕ) → Ok all ≡ boards_for p from words → Boards all
  unfolding boards_for
  boards_known all h =
      let k = by_boards (eqb (run_error p from) 0) (few_words p words) all (boards p) (Refused (refusal (run_error p from))) h in
      record { error = eqb-true (run_error p from) 0 k.0; boards_are = k.2; enough = omega (arith, ltb-false words (512 * boards p) k.1, k.2) }

err_same : (x y : RunRefusal) → ◌≡◌ {A = Result ℕ RunRefusal} (Err x) (Err y) → x ≡ y
err_same x y e = cc

same_refusal : (x : RunRefusal) → run_number {A = Run} (Err x) ≡ run_number {A = ℕ} (Err x)
same_refusal (Refused e) = refl
same_refusal FewWords = refl

ended_number : (b : Bool) (run : Run) → run_number {A = Run} (cond b (Err (Refused OutputShort)) (Ok run)) ≡ cond b output_short 0
ended_number true run = refl
ended_number false run = refl

-- ---- a run's answer, with the workspace w, which it leaves as v, and the lent bytes o
module _ (p : List ℕ) (from : ℕ) (w o : List ℕ) where
  abbrev words : ℕ
  words = length w

  abbrev room : ℕ
  room = length o

  pub refused_run : (x : RunRefusal) → Err x ≡ boards_for p from words → run_number {A = ℕ} (Err x) ≡ run_error p from → RunWritten p from w o (Err x) w o
  unfolding boards_for run_answer run_output passes answer_of
  refused_run x h n =
      let m = same_refusal x ∙ n in
      test (eqb (run_error p from) 0)
      (λ e. test (few_words p words)
      (λ f. record {
        answer = let q : ◌≡◌ {A = Result ℕ RunRefusal} (Err x) (Err FewWords) = rw (e, f) at h in rw (e, f) (ap Err (err_same x FewWords q));
        number = rw (e, f) (m ∙ eqb-true (run_error p from) 0 e);
        output = rw (e, f) refl;
        kept = λ _. refl;
      })
      (λ f. let q : ◌≡◌ {A = Result ℕ RunRefusal} (Err x) (Ok (boards p)) = rw (e, f) at h in let z : ◌≡◌ {A = ℕ} 0 1 = cc in absurd (omega arith)))
      (λ e. record {
        answer = let q : ◌≡◌ {A = Result ℕ RunRefusal} (Err x) (Err (Refused (refusal (run_error p from)))) = rw e at h in rw e (ap Err (err_same x (Refused (refusal (run_error p from))) q));
        number = rw e m;
        output = rw e refl;
        kept = λ _. refl;
      })

  module _ (all : ℕ) (g : Boards p from words all) where
    z : eqb (run_error p from) 0 ≡ true
    z = eq-eqb (run_error p from) 0 g.error

    enough : few_words p words ≡ false
    enough = le-ltb words (512 * boards p) (omega (arith, g.enough, g.boards_are))

    pub written_run : (run : Run) (r : Result Run RunRefusal) (t v : List ℕ) → RunMade p from o run t → r ≡ ended run all → RunWritten p from w o r v t
    unfolding run_answer run_output passes ended answer_of
    written_run run r t v made er = record {
      answer = rw (z, enough, sym g.boards_are, sym made.run) er;
      number = rw (z, enough, sym g.boards_are, sym made.run, er) (ended_number (eqb run.size 0 && ltb run.next all) run);
      output = rw (z, enough) made.bytes;
      kept = λ q. absurd (true≢false (rw (z, enough) at q));
    }

-- ---- the sets to all boards, in the workspace w
module _ (p w : List ℕ) where
  pub declined_sets : (e : ℕ) → e ≡ plan_error large p → (e ≡ 0 → ⊥) → SetsMade p w false w
  unfolding is_plan
  declined_sets e h n = record { answer = rw (ne_eqb (plan_error large p) 0 (λ z. n (h ∙ z))); long = refl; made = λ q. absurd (true≢false (sym q)); kept = λ _. refl }

  module _ (ok : plan_error large p ≡ 0) (m : Shape) (all n : ℕ) (em : m ≡ shape_of p) (ea : all ≡ count_answer m) (en : n ≡ 512 * all) where
    words_are : n ≡ 512 * boards p
    words_are = en ∙ ap (λ k. 512 * k) (all_boards p ok m all em ea)

    pub few_sets : length w < n → SetsMade p w false w
    unfolding is_plan
    few_sets l = record {
      answer = rw (eq-eqb (plan_error large p) 0 ok, lt-ltb (length w) (512 * boards p) (omega (arith, words_are)));
      long = refl;
      made = λ q. absurd (true≢false (sym q));
      kept = λ _. refl;
    }

    pub made_sets : n ≤ length w → (v : List ℕ) → length v ≡ length w → Filled p v → SetsMade p w true v
    unfolding is_plan
    made_sets l v long filled = record {
      answer = rw (eq-eqb (plan_error large p) 0 ok, le-ltb (length w) (512 * boards p) (omega (arith, words_are)));
      long = long;
      made = λ _. filled;
      kept = λ q. absurd (true≢false q);
    }
