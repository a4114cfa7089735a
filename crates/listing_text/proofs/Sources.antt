-- The checks of a source, and what planning from a sound one finds ready.
use Prim.Native.Nat.{ℕ, ◌-◌, ◌≤◌, ◌<◌}
use native.Mathlib.Omega.{arith}
use mathlib.Core.Path.{◌≡◌, sym, ◌∙◌}
use mathlib.Core.Bool.{true}
use mathlib.Core.List.{List}
use lib.ListN.{length, take, drop, get_or, length-drop}
use lib.Seq.{take_all}
use lib.Dec.{ltb, eqb}
use borrow.Author.Tests.{eq-eqb, lt-ltb, le-ltb, ltb-false, eqb-true}
use Rattle.numbers.specs.Numbers.{plan_short}
use Rattle.theory.proofs.Cases.{test}
use Rattle.shape.specs.declared.shape.Shape.{Shape}
use Rattle.shape.specs.Shape.{shape_error}
use Rattle.shape.proofs.Shapes.{count_most}
use Rattle.machine.specs.Number.{node_count}
use Rattle.machine.specs.Node.{is_node, count_answer}
use Rattle.machine.proofs.Nodes.{node_of}
use Rattle.plan.specs.Layout.{shape_of}
use Rattle.plan.specs.Checks.{large}
use Rattle.choice.specs.Pair.{far_in, pair}
use Rattle.choice.specs.declared.outcome.Outcome.{Outcome}
use Rattle.choice.specs.Outcome.{told}
use Rattle.planned_sheet.specs.Sheet.{source_error}
use Rattle.planner.specs.Outcomes.{no_outcome, outcome_at}
use Rattle.planned_sheet.proofs.Planning.{Source, source_of}
use Rattle.listing_text.specs.Text.{source_in, plan_in, listing_error}

-- The checks of the input.
module _ (i : List ℕ) where
  pub no_source : length i < 2 → plan_short ≡ listing_error i
  unfolding listing_error
  no_source h = rw (lt-ltb (length i) 2 h)

  pub has_source : 2 ≤ length i → listing_error i ≡ source_error large (plan_in i) (source_in i)
  unfolding listing_error
  has_source h = rw (le-ltb (length i) 2 h)

  -- What follows the source, as a part of the input.
  pub rest : take (length i - 2) (drop 2 i) ≡ plan_in i
  rest = take_all (length i - 2) (drop 2 i) (omega (arith, length-drop 2 i))

  pub read_source : (S r : ℕ) → 2 ≤ length i → S ≡ source_in i → r ≡ source_error large (take (length i - 2) (drop 2 i)) S → r ≡ listing_error i
  read_source S r h e q = q ∙ rw (rest, e) (sym (has_source h))

  pub long_input : listing_error i ≡ 0 → 2 ≤ length i
  unfolding listing_error
  long_input h = test (ltb (length i) 2)
      (λ e. let z : ◌≡◌ {A = ℕ} 1 0 = rw e at h in absurd (omega arith))
      (λ e. omega (arith, ltb-false (length i) 2 e))

  pub source_sound : listing_error i ≡ 0 → source_error large (plan_in i) (source_in i) ≡ 0
  source_sound h = sym (has_source (long_input h)) ∙ h

-- The node count of any shape.
pub count_small : (s : Shape) (r : ℕ) → r ≡ count_answer s → r ≤ 4096
unfolding node_count
count_small s r e =
    test (eqb (shape_error s) 0)
    (λ z. omega (arith, (rw z at e), count_most s (eqb-true (shape_error s) 0 z)))
    (λ z. omega (arith, (rw z at e)))

module _ (p : List ℕ) (S : ℕ) (ok : source_error large p S ≡ 0) where
  sound : Source large p S
  sound = source_of large p S ok

  pub counted : (r : ℕ) → r ≡ count_answer (shape_of p) → r ≡ node_count (shape_of p)
  counted r e = e ∙ rw (eq-eqb (shape_error (shape_of p)) 0 (node_of (shape_of p) S sound.node).sound)

  -- The nodes of the plan.
  pub node_below : (D : ℕ) → D < node_count (shape_of p) → is_node (shape_of p) D ≡ true
  unfolding is_node
  node_below D below = rw (eq-eqb (shape_error (shape_of p)) 0 (node_of (shape_of p) S sound.node).sound) (lt-ltb D (node_count (shape_of p)) below)

  -- What is planned for each destination is what planning the pair answers.
  pub planned_all : (os : List Outcome) → ((d : ℕ) → get_or os d no_outcome ≡ outcome_at large p S d) → (D : ℕ) → D < node_count (shape_of p) → get_or os D no_outcome ≡ told (far_in p) S (pair large p S D)
  unfolding outcome_at
  planned_all os h D below = h D ∙ rw (eq-eqb (source_error large p S) 0 ok, lt-ltb D (node_count (shape_of p)) below)
