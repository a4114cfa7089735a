-- What a run leaves for the next one.
use Prim.Native.Nat.{ℕ, zero, suc, ◌+◌, ◌-◌, ◌≤◌, ◌<◌}
use native.Mathlib.Omega.{arith}
use mathlib.Core.Path.{◌≡◌, refl, sym, ap, ◌∙◌}
use mathlib.Core.List.{List, [], ◌∷◌, ◌++◌, append_assoc}
use lib.ListN.{length, length-append}
use borrow.Author.Tests.{eq-eqb, ne_eqb}
use Rattle.plan.specs.Checks.{large, plan_error}
use Rattle.plan.specs.Reading.{is_plan}
use Rattle.routes.specs.Layout.{most_bytes}
use Rattle.planned_sheet.specs.Sheet.{source_error, planned_sheet}
use Rattle.all_sheets.specs.All.{sheets_from, left}
use Rattle.planner.specs.Run.{run_sheets, run_next, joined, boards, run_bytes}
use Rattle.planner.proofs.ByBoard.{by_board}
use Rattle.all_sheets.proofs.Lengths.{sheet_long, sheet_fits}

module _ (p : List ℕ) (S n : ℕ) where
  from_dead : (source_error large p S ≡ 0 → ⊥) → sheets_from p S (suc n) ≡ sheets_from p (suc S) n
  unfolding sheets_from
  from_dead h = rw (ne_eqb (source_error large p S) 0 h)

  from_sound : source_error large p S ≡ 0 → sheets_from p S (suc n) ≡ planned_sheet large p S ∷ sheets_from p (suc S) n
  unfolding sheets_from
  from_sound h = rw (eq-eqb (source_error large p S) 0 h)

module _ (p : List ℕ) where
  -- A run ends within its boards.
  pub next_within : (n S room : ℕ) → (S ≤ run_next p S n room) × (run_next p S n room ≤ S + n)
  unfolding run_next
  next_within zero S room = (omega arith, omega arith)
  next_within (suc n) S room =
      by_board p S n room
      (λ d. let k = next_within n (suc S) room in (omega (arith, d.next, k.0), omega (arith, d.next, k.1)))
      (λ f. let k = next_within n (suc S) (room - length (planned_sheet large p S)) in (omega (arith, f.next, k.0), omega (arith, f.next, k.1)))
      (λ f. (omega (arith, f.next), omega (arith, f.next)))

  -- A run that stays at its first board has no sheet.
  pub next_same : (n S room : ℕ) → run_next p S n room ≡ S → run_sheets p S n room ≡ []
  unfolding run_sheets
  next_same zero S room e = refl
  next_same (suc n) S room e =
      by_board p S n room
      (λ d. absurd (omega (arith, d.next, (next_within n (suc S) room).0)))
      (λ f. absurd (omega (arith, f.next, (next_within n (suc S) (room - length (planned_sheet large p S))).0)))
      (λ f. f.sheets)

  -- With room for the longest sheet, a run that leaves a board has a sheet.
  pub next_left : (n S room : ℕ) → most_bytes ≤ room → run_next p S n room < S + n → 1 ≤ length (joined (run_sheets p S n room))
  unfolding run_next joined
  next_left zero S room h l = absurd (omega arith)
  next_left (suc n) S room h l =
      by_board p S n room
      (λ d. rw d.sheets (next_left n (suc S) room h (omega (arith, d.next))))
      (λ f.
      let s = planned_sheet large p S in
      rw f.sheets (omega (arith, length-append s (joined (run_sheets p (suc S) n (room - length s))), sheet_long p S f.sound)))
      (λ f. absurd (omega (arith, f.short, sheet_fits p S f.sound)))

  -- Its sheets, and behind them those of the boards that it leaves, are those of all its boards.
  sheets_on : (n S room : ℕ) → run_sheets p S n room ++ sheets_from p (run_next p S n room) (S + n - run_next p S n room) ≡ sheets_from p S n
  unfolding run_sheets run_next sheets_from
  sheets_on zero S room = let z : S + 0 - S ≡ 0 = omega arith in rw z
  sheets_on (suc n) S room =
      let one : S + suc n ≡ suc S + n = omega arith in
      by_board p S n room
      (λ d. rw (d.sheets, d.next, one) (sheets_on n (suc S) room ∙ sym (from_dead p S n d.dead)))
      (λ f.
      let s = planned_sheet large p S in
      rw (f.sheets, f.next, one) (ap (λ x. s ∷ x) (sheets_on n (suc S) (room - length s)) ∙ sym (from_sound p S n f.sound)))
      (λ f. let z : S + suc n - S ≡ suc n = omega arith in rw (f.sheets, f.next, z))

  pub join_append : (a b : List (List ℕ)) → joined (a ++ b) ≡ joined a ++ joined b
  unfolding joined
  join_append [] b = refl
  join_append (s ∷ a) b = ap (λ x. s ++ x) (join_append a b) ∙ sym (append_assoc s (joined a) (joined b))

  module _ (ok : plan_error large p ≡ 0) where
    pub left_from : (S : ℕ) → left p S ≡ sheets_from p S (boards p - S)
    unfolding left is_plan
    left_from S = rw (eq-eqb (plan_error large p) 0 ok)

    pub none_left : left p (boards p) ≡ []
    unfolding sheets_from
    none_left = let z : boards p - boards p ≡ 0 = omega arith in left_from (boards p) ∙ rw z

    -- A run's sheets, and behind them what is left from its end on, are what was left.
    pub run_left : (from room : ℕ) → from ≤ boards p → run_sheets p from (boards p - from) room ++ left p (run_next p from (boards p - from) room) ≡ left p from
    run_left from room l =
        let z : from + (boards p - from) ≡ boards p = omega arith in
        rw (left_from from, left_from (run_next p from (boards p - from) room)) (rw z at (sheets_on (boards p - from) from room))

    pub run_left_bytes : (from room : ℕ) → from ≤ boards p → run_bytes p from room ++ joined (left p (run_next p from (boards p - from) room)) ≡ joined (left p from)
    unfolding run_bytes
    run_left_bytes from room l = sym (join_append (run_sheets p from (boards p - from) room) _) ∙ ap joined (run_left from room l)
