-- A plan written is read back as the same plan, and an accepted sheet is written back as the same bytes: from what the lent output holds after the call.
use Prim.Native.Nat.{ℕ, ◌≤◌}
use mathlib.Core.Path.{◌≡◌, sym, ◌∙◌}
use mathlib.Core.List.{List}
use lib.ListN.{length}
use Rattle.std.specs.Prelude.{Result, Ok}
use Rattle.numbers.specs.declared.Refusal.{Refusal}
use Rattle.numbers.proofs.Refusals.{answer-0}
use Rattle.sheet.specs.Bytes.{AreBytes}
use Rattle.sheet.proofs.RoundTrips.{after_writing}
use Rattle.sheet.proofs.RoundTrips as Sheet
use Rattle.plan.specs.Checks.{Limits, Rules, plan_error_by}
use Rattle.plan_value.specs.declared.reading.Plan.{Plan}
use Rattle.plan_value.specs.Reading.{plan_of, reading}
use Rattle.plan_value.specs.Writing.{sheet_of}
use Rattle.plan_value.specs.Value.{Fits, cleared}
use Rattle.plan_value.proofs.Writings.{plan_read}
use Rattle.plan_value.proofs.Rewriting.{read_written}

module _ (R : Rules) (L : Limits) where
  abbrev error : List ℕ → ℕ
  error s = plan_error_by R L s

  abbrev read_from : List ℕ → Result Plan Refusal
  read_from s = reading (error s) s

  -- The sheet written back.
  pub written_back : (s o : List ℕ) → error s ≡ 0 → length s ≤ length o → after_writing error (length s) s o ≡ s
  written_back s o h l = Sheet.written_back error s o h l

  -- A plan written, then read.
  pub written_read : (p : Plan) → Fits p → (o : List ℕ) → let s = sheet_of p in error s ≡ 0 → length s ≤ length o → read_from (after_writing error (length s) s o) ≡ Ok (cleared p)
  written_read p f o h l = Sheet.written_read error (sheet_of p) o h l reading ∙ rw (answer-0, plan_read p f)

  -- A sheet read, then written. What is read fits (`read_fits` of Rewriting), and its sheet is accepted.
  module _ (s : List ℕ) (bytes : AreBytes s) (h : error s ≡ 0) where
    pub read_accepted : error (sheet_of (plan_of s)) ≡ 0
    read_accepted = rw (read_written R L s h bytes) h

    pub read_is : read_from s ≡ Ok (plan_of s)
    read_is = rw h (answer-0 (plan_of s))

    module _ (q : Plan) (read : read_from s ≡ Ok q) where
      -- The sheet of what is read.
      abbrev again : List ℕ
      again = sheet_of q

      same_plan : q ≡ plan_of s
      same_plan = let b : ◌≡◌ {A = Result Plan Refusal} (Ok q) (Ok (plan_of s)) = sym read ∙ read_is in cc

      same_sheet : again ≡ s
      same_sheet = rw same_plan (read_written R L s h bytes)

      module _ (o : List ℕ) (l : length s ≤ length o) where
        pub read_then_written : after_writing error (length s) again o ≡ s
        read_then_written = Sheet.read_then_written error s o h l reading again same_sheet

        pub read_again : read_from (after_writing error (length s) again o) ≡ read_from s
        read_again = Sheet.read_again error s o h l reading again same_sheet
