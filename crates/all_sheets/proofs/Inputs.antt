-- A run of a plan that was read into a buffer.
use Prim.Native.Nat.{ℕ, ◌≤◌}
use native.Mathlib.Omega.{arith}
use mathlib.Core.Path.{◌≡◌, sym, ap, ◌∙◌}
use mathlib.Core.Bool.{Bool, false}
use mathlib.Core.List.{List}
use lib.ListN.{length, take, length-take}
use borrow.Author.Tests.{ne_eqb}
use Rattle.std.specs.Prelude.{Result, Err}
use Rattle.numbers.specs.Refusals.{refusal}
use Rattle.theory.proofs.Checks.{declines}
use Rattle.sheet.specs.Input.{ReadInto}
use Rattle.sheet.proofs.Inputs.{DecidedBy, read_whole}
use Rattle.plan.specs.Checks.{large, plan_error}
use Rattle.plan_input.proofs.Long.{long_declined, error_decided}
use Rattle.planner.specs.declared.run.Run.{Run}
use Rattle.planner.specs.declared.run.RunRefusal.{RunRefusal}
use Rattle.planner.specs.declared.run.RunRefusal.TheVariants.{Refused}
use Rattle.planner.specs.Known.{Filled}
use Rattle.planner.specs.Run.{run_error, run_answer, answer_of, passes, run_output, RunWritten, SetsMade}

-- A declined plan decides the answer, and leaves the lent bytes.
module _ (p : List ℕ) (from words : ℕ) (h : plan_error large p ≡ 0 → ⊥) where
  declined_first : run_error p from ≡ plan_error large p
  unfolding run_error
  declined_first = declines (plan_error large p) _ h

  declined_answer : (room : ℕ) → run_answer p from words room ≡ Err (Refused (refusal (plan_error large p)))
  unfolding run_answer
  declined_answer room = rw (declined_first, ne_eqb (plan_error large p) 0 h)

  declined_number : (room : ℕ) → answer_of p from words room ≡ plan_error large p
  unfolding answer_of
  declined_number room = rw (declined_first, ne_eqb (plan_error large p) 0 h)

  declined_passes : passes p from words ≡ false
  unfolding passes
  declined_passes = rw (declined_first, ne_eqb (plan_error large p) 0 h)

  declined_output : (o : List ℕ) → run_output p from words o ≡ o
  unfolding run_output
  declined_output o = rw declined_passes

-- So the first 781 bytes of an input, one more than the longest plan sheet, decide both.
module _ (from words : ℕ) where
  long : (k : ℕ) (p : List ℕ) → 781 ≤ k → k ≤ length p → plan_error large (take k p) ≡ 0 → ⊥
  long k p h l = long_declined large (take k p) (omega (arith, length-take k p))

  answer_decided : (room : ℕ) → DecidedBy 781 (λ p. run_answer p from words room)
  answer_decided room k p h l =
      declined_answer (take k p) from words (long k p h l) room
      ∙ ap (λ e. Err (Refused (refusal e))) (error_decided large k p h l)
      ∙ sym (declined_answer p from words (long_declined large p (omega arith)) room)

  number_decided : (room : ℕ) → DecidedBy 781 (λ p. answer_of p from words room)
  number_decided room k p h l =
      declined_number (take k p) from words (long k p h l) room
      ∙ error_decided large k p h l
      ∙ sym (declined_number p from words (long_declined large p (omega arith)) room)

  output_decided : (o : List ℕ) → DecidedBy 781 (λ p. run_output p from words o)
  output_decided o k p h l = declined_output (take k p) from words (long k p h l) o ∙ sym (declined_output p from words (long_declined large p (omega arith)) o)

  passes_decided : DecidedBy 781 (λ p. passes p from words)
  passes_decided k p h l = declined_passes (take k p) from words (long k p h l) ∙ sym (declined_passes p from words (long_declined large p (omega arith)))

module _ (plan p : List ℕ) (size from : ℕ) (w o : List ℕ) (r : Result Run RunRefusal) (v t : List ℕ) (buffer : 781 ≤ length plan) (read : p ≡ take size plan) where
  same : {A : Type 0} (f : List ℕ → A) → DecidedBy 781 f → (whole : List ℕ) → ReadInto whole plan size → f (take size plan) ≡ f whole
  same f d whole i = read_whole 781 f d whole plan size buffer i

  pub of_input :
      RunWritten p from w o r v t →
      (RunWritten (take size plan) from w o r v t) × ((whole : List ℕ) → ReadInto whole plan size → RunWritten whole from w o r v t)
  of_input g =
      let k : RunWritten (take size plan) from w o r v t = rw read at g in (
        k,
        λ whole i. record {
          answer = k.answer ∙ same (λ q. run_answer q from (length w) (length o)) (answer_decided from (length w) (length o)) whole i;
          number = k.number ∙ same (λ q. answer_of q from (length w) (length o)) (number_decided from (length w) (length o)) whole i;
          output = k.output ∙ same (λ q. run_output q from (length w) o) (output_decided from (length w) o) whole i;
          kept = λ e. k.kept (same (λ q. passes q from (length w)) (passes_decided from (length w)) whole i ∙ e);
        },
      )

-- ---- with the sets to all boards
pub sets_input : (p q w : List ℕ) (r : Bool) (v : List ℕ) → p ≡ q → SetsMade p w r v → SetsMade q w r v
sets_input p q w r v read g = rw read at g

pub of_sets :
    (plan p : List ℕ) (size from : ℕ) (w o : List ℕ) (r : Result Run RunRefusal) (t : List ℕ) → 781 ≤ length plan → p ≡ take size plan → (Filled p w → RunWritten p from w o r w t) →
    (Filled (take size plan) w → RunWritten (take size plan) from w o r w t) × ((whole : List ℕ) → ReadInto whole plan size → Filled (take size plan) w → RunWritten whole from w o r w t)
of_sets plan p size from w o r t buffer read g =
    let run : Filled (take size plan) w → RunWritten p from w o r w t = λ f. g (rw read f) in
    (λ f. (of_input plan p size from w o r w t buffer read (run f)).0, λ whole i f. (of_input plan p size from w o r w t buffer read (run f)).1 whole i)
