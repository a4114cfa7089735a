-- The numbers of the values that cross are those of the calls' own.
use Prim.Native.Nat.{ℕ}
use mathlib.Core.Path.{◌≡◌, refl, ap, ◌∙◌}
use mathlib.Core.Bool.{true, false}
use mathlib.Core.List.{List}
use lib.Dec.{eqb}
use Rattle.std.specs.Prelude.{Result, Ok, Err}
use Rattle.numbers.specs.declared.Refusal.{Refusal}
use Rattle.numbers.specs.Refusals.{answer_number}
use Rattle.theory.proofs.Cases.{test}
use Rattle.packet.specs.declared.stepper.Stepped.{Stepped}
use Rattle.packet.specs.declared.stepper.Walked.{Walked}
use Rattle.packet.specs.Answers.{ending_number}
use Rattle.choice.specs.declared.outcome.Outcome.{Outcome}
use Rattle.choice.specs.Outcome.{outcome_number}
use Rattle.planner.specs.declared.run.Run.{Run}
use Rattle.planner.specs.declared.run.RunRefusal.{RunRefusal}
use Rattle.planner.specs.declared.run.RunRefusal.TheVariants.{Refused, FewWords}
use Rattle.planner.specs.Run.{run_error, few_words, none_fits, run_of, run_answer, run_number, answer_of}
use Rattle.nafthurm.specs.declared.forms.PacketForm.{PacketForm}
use Rattle.nafthurm.specs.declared.forms.SteppedForm.{SteppedForm}
use Rattle.nafthurm.specs.declared.forms.WalkedForm.{WalkedForm}
use Rattle.nafthurm.specs.declared.forms.WrittenForm.{WrittenForm}
use Rattle.nafthurm.specs.declared.forms.ConvertedForm.{ConvertedForm}
use Rattle.nafthurm.specs.declared.forms.RunForm.{RunForm}
use Rattle.nafthurm.specs.declared.forms.RouteForm.{RouteForm}
use Rattle.nafthurm.specs.declared.forms.PlannedForm.{PlannedForm}
use Rattle.nafthurm.specs.Forms.{stepped_for, walked_for, written_for, converted_for, run_for, run_form_number, route_for, planned_for}

pub stepped_number : (w : SteppedForm) (lent : PacketForm) (s : Stepped) → w ≡ stepped_for lent s → w.number ≡ answer_number s.answer
unfolding stepped_for
stepped_number w lent s e = ap (λ f. f.number) e

pub walked_number : (w : WalkedForm) (lent : PacketForm) (s : Walked) → w ≡ walked_for lent s → w.number ≡ ending_number s.ending
unfolding walked_for
walked_number w lent s e = ap (λ f. f.number) e

pub written_number : (w : WrittenForm) (r : Result ℕ Refusal) → w ≡ written_for r → w.number ≡ answer_number r
unfolding written_for
written_number w r e = ap (λ f. f.number) e

pub converted_number : (w : ConvertedForm) (r : Result ℕ Refusal) (i : ℕ) → w ≡ converted_for r i → w.number ≡ answer_number r
unfolding converted_for
converted_number w r i e = ap (λ f. f.number) e

pub route_number : (w : RouteForm) (o : Outcome) → w ≡ route_for o → w.number ≡ outcome_number o
unfolding route_for
route_number w o e = ap (λ f. f.number) e

pub planned_number : (w : PlannedForm) (o : Outcome) → w ≡ planned_for o → w.route.number ≡ outcome_number o
unfolding planned_for route_for
planned_number w o e = ap (λ f. f.route.number) e

-- ---- a run
not_few : (r : Result Run RunRefusal) → (r ≡ Err FewWords → ⊥) → (run_for r).number ≡ run_number r
unfolding run_for
not_few (Ok run) h = refl
not_few (Err (Refused e)) h = refl
not_few (Err FewWords) h = absurd (h refl)

module _ (p : List ℕ) (from words room : ℕ) (r : Result Run RunRefusal) (made : r ≡ run_answer p from words room) (number : run_number r ≡ answer_of p from words room) where
  form_number : (run_for r).number ≡ run_form_number p from words room
  unfolding run_for run_form_number run_answer
  form_number =
      test (eqb (run_error p from) 0)
      (λ a.
      test (few_words p words)
      (λ b. rw (made, a, b))
      (λ b. rw (a, b) (not_few r (λ f. test (none_fits p (run_of p from room)) (λ d. let g : r ≡ Err (Refused _) = rw (a, b, d) at made in cc) (λ d. let g : r ≡ Ok (run_of p from room) = rw (a, b, d) at made in cc)) ∙ number)))
      (λ a. rw a (not_few r (λ f. let g : r ≡ Err (Refused _) = rw a at made in cc) ∙ number))

  pub run_number_law : (w : RunForm) → w ≡ run_for r → w.number ≡ run_form_number p from words room
  run_number_law w e = ap (λ f. f.number) e ∙ form_number
