-- What the code judges of a sheet, by itself and under a plan.
use Prim.Native.Nat.{ℕ, ◌≤◌, ◌<◌}
use native.Mathlib.Omega.{arith}
use mathlib.Core.Path.{◌≡◌, sym, ◌∙◌}
use mathlib.Core.Bool.{true, false, not, ◌&&◌}
use mathlib.Core.List.{List}
use lib.ListN.{length}
use lib.Dec.{eqb}
use borrow.Author.Tests.{eqb-true, eqb-false, ne_eqb}
use Rattle.std.specs.Prelude.{⊤, Result, Ok, Err}
use Rattle.numbers.specs.Numbers.{wrong_route_sheet, entry_not_kept}
use Rattle.numbers.specs.declared.Refusal.{Refusal}
use Rattle.numbers.specs.declared.Refusal.TheVariants.{WrongRouteSheet, EntryNotKept}
use Rattle.numbers.specs.Refusals.{number}
use Rattle.theory.specs.Checks.{declined, ◌then◌}
use Rattle.theory.proofs.Bools.{and_true}
use Rattle.theory.proofs.Cases.{test}
use Rattle.theory.proofs.Checks.{declines, then_zero}
use Rattle.sheet.specs.Output.{room_error}
use Rattle.sheet.proofs.Outputs.{not_0, Put, unread, room}
use Rattle.shape.specs.declared.shape.Shape.{Shape}
use Rattle.machine.specs.Node.{is_node}
use Rattle.plan.specs.Layout.{shape_of}
use Rattle.plan.specs.Checks.{Limits, plan_error}
use Rattle.routes.specs.Layout.{first, source, entries_in}
use Rattle.routes.specs.Checks.{head_good, entries_good, routes_good, good_in, error_in}
use Rattle.routes.proofs.Sheets.{accepted_in, put_declined}
use Rattle.conversion.specs.declared.judge.NotConverted.{NotConverted}
use Rattle.conversion.specs.declared.judge.NotConverted.TheVariants.{Refused, Lost}
use Rattle.conversion.specs.Keeping.{all_kept}
use Rattle.conversion.specs.Converting.{keep_error, converted, convert_error, lost_entry}
use Rattle.conversion.specs.Steps.{judged_number, judged_entry, Judged}
use Rattle.conversion.proofs.Bytes.{same_length}
use Rattle.conversion.proofs.Losing.{judged_wrong}

-- Of the sheet, from its head, its source and its entries.
module _ (m : Shape) (s : List ℕ) where
  pub wrong_sheet : (S : ℕ) → S ≡ source s → (head_good first s && is_node m S) ≡ false → Judged (good_in first m s) m (source s) s (Err (Refused WrongRouteSheet))
  unfolding good_in routes_good
  wrong_sheet S is h =
      judged_wrong _ m (source s) s
      (test (head_good first s)
      (λ t. let node : is_node m S ≡ false = rw t at h in rw (t, ← is, node))
      (λ t. rw t))

  pub sheet_judged :
      (S : ℕ) → S ≡ source s → (head_good first s && is_node m S) ≡ true → (r : Result ⊤ NotConverted) → Judged (entries_good m S 0 (entries_in first s)) m S s r →
      Judged (good_in first m s) m (source s) s r
  unfolding good_in routes_good
  sheet_judged S is h r j =
      let b = and_true (head_good first s) (is_node m S) h in
      rw (b.0, ← is, b.1) j

-- Under a plan.
module _ (L : Limits) (p s : List ℕ) where
  abbrev Answers : Result ⊤ NotConverted → Type 0
  Answers r = record { number : judged_number r ≡ keep_error L p s; entry : judged_entry r ≡ lost_entry L p s }

  pub plan_refused : (e : Refusal) → number e ≡ plan_error L p → Answers (Err (Refused e))
  unfolding keep_error lost_entry error_in
  plan_refused e h =
      let k : plan_error L p ≡ 0 → ⊥ = λ z. not_0 e (h ∙ z) in
      record {
        number = rw (declines (plan_error L p) (declined (not (good_in first (shape_of p) s)) wrong_route_sheet) k, declines (plan_error L p) (declined (not (all_kept (shape_of p) (source s) (entries_in first s))) entry_not_kept) k) h;
        entry = rw (declines (plan_error L p) (declined (not (good_in first (shape_of p) s)) wrong_route_sheet) k, ne_eqb (plan_error L p) 0 k);
      }

  pub plan_judged : 0 ≡ plan_error L p → (m : Shape) → m ≡ shape_of p → (r : Result ⊤ NotConverted) → Judged (good_in first m s) m (source s) s r → Answers r
  unfolding keep_error lost_entry error_in
  plan_judged h m em r j =
      let n = rw em at j.number in
      let e = rw em at j.entry in
      record {
        number = rw (← h) n;
        entry = rw (← h) (e ∙ test (good_in first (shape_of p) s) (λ g. rw g) (λ g. rw g));
      }

  -- A sheet that is converted has bytes.
  pub long : keep_error L p s ≡ 0 → 0 < length s
  unfolding keep_error
  long h = let a = accepted_in first L p s (then_zero (error_in first L p s) _ h).0 in let l = a.head.long in omega arith

  -- Output as long as the sheet is never too short.
  pub room_enough : (o : List ℕ) → length s ≤ length o → convert_error L p s o ≡ keep_error L p s
  room_enough o h = test (eqb (keep_error L p s) 0) (λ t. enough (eqb-true (keep_error L p s) 0 t)) (λ t. unread (keep_error L p s) (converted s) o (eqb-false (keep_error L p s) 0 t))
    where
      enough : keep_error L p s ≡ 0 → convert_error L p s o ≡ keep_error L p s
      enough z = room (keep_error L p s) (converted s) o z (rw (same_length s (long z)) h) ∙ sym z

  -- The converter's answer, by what was judged.
  module _ (o : List ℕ) where
    pub record Convert (w : Result ℕ Refusal) (i : ℕ) (t : List ℕ) : Type 0 where
      pub put : Put (convert_error L p s o) (converted s) o w t
      pub entry : i ≡ lost_entry L p s

    pub convert_refused : (e : Refusal) → Answers (Err (Refused e)) → Convert (Err e) 0 o
    convert_refused e a = record { put = put_declined (keep_error L p s) (converted s) o e a.number; entry = a.entry }

    pub convert_lost : (i : ℕ) → Answers (Err (Lost i)) → Convert (Err EntryNotKept) i o
    convert_lost i a = record { put = put_declined (keep_error L p s) (converted s) o EntryNotKept a.number; entry = a.entry }

    module _ (u : ⊤) (a : Answers (Ok u)) where
      pub convert_long : 0 < length s
      convert_long = long (sym a.number)

      pub convert_kept : (w : Result ℕ Refusal) (t : List ℕ) → Put (room_error 0 (converted s) o) (converted s) o w t → Convert w 0 t
      convert_kept w t put = record { put = rw (← a.number) put; entry = a.entry }
