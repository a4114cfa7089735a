-- The next board of a run: dead, with a sheet that fits, or with one that does not.
use Prim.Native.Nat.{ℕ, suc, ◌-◌, ◌≤◌, ◌<◌}
use mathlib.Core.Path.{◌≡◌}
use mathlib.Core.List.{List, [], ◌∷◌}
use lib.ListN.{length}
use lib.Dec.{eqb}
use borrow.Author.Tests.{eqb-true, eqb-false, lt-ltb, le-ltb}
use Rattle.theory.proofs.Cases.{test, by_le}
use Rattle.plan.specs.Checks.{large}
use Rattle.planned_sheet.specs.Sheet.{source_error, planned_sheet}
use Rattle.planner.specs.Run.{run_sheets, run_next}

module _ (p : List ℕ) (S n room : ℕ) where
  abbrev s : List ℕ
  s = planned_sheet large p S

  pub record Dead : Type 0 where
    pub dead : source_error large p S ≡ 0 → ⊥
    pub sheets : run_sheets p S (suc n) room ≡ run_sheets p (suc S) n room
    pub next : run_next p S (suc n) room ≡ run_next p (suc S) n room

  pub record Fits : Type 0 where
    pub sound : source_error large p S ≡ 0
    pub enough : length s ≤ room
    pub sheets : run_sheets p S (suc n) room ≡ s ∷ run_sheets p (suc S) n (room - length s)
    pub next : run_next p S (suc n) room ≡ run_next p (suc S) n (room - length s)

  pub record Full : Type 0 where
    pub sound : source_error large p S ≡ 0
    pub short : room < length s
    pub sheets : run_sheets p S (suc n) room ≡ []
    pub next : run_next p S (suc n) room ≡ S

  pub by_board : {X : Type 0} → (Dead → X) → (Fits → X) → (Full → X) → X
  unfolding run_sheets run_next
  by_board dead fits full =
      test (eqb (source_error large p S) 0)
      (λ e.
      let h = eqb-true (source_error large p S) 0 e in
      by_le (length s) room
      (λ f. let k = le-ltb room (length s) f in fits (record { sound = h; enough = f; sheets = rw (e, k); next = rw (e, k) }))
      (λ f. let k = lt-ltb room (length s) f in full (record { sound = h; short = f; sheets = rw (e, k); next = rw (e, k) })))
      (λ e. dead (record { dead = eqb-false (source_error large p S) 0 e; sheets = rw e; next = rw e }))
