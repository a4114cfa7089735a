-- Input past the longest plan sheet that is accepted: it is declined, and its first 781 bytes, one more than that sheet has, say with which number.
use Prim.Native.Nat.{ℕ, ◌+◌, ◌-◌, ◌≤◌, ◌<◌}
use native.Mathlib.Omega.{arith}
use mathlib.Core.Path.{◌≡◌, sym, ◌∙◌}
use mathlib.Core.Bool.{Bool, false, not}
use mathlib.Core.List.{List}
use lib.ListN.{length, take, length-take}
use lib.Seq.{get_or-take}
use lib.Dec.{ltb}
use borrow.Author.Tests.{le-ltb, ltb-false}
use Rattle.numbers.specs.Numbers.{plan_version_unknown, many_faults, wrong_length}
use Rattle.theory.specs.Checks.{declined, ◌then◌}
use Rattle.theory.proofs.Cases.{test}
use Rattle.sheet.specs.Bytes.{byte}
use Rattle.sheet.specs.Head.{version, length_is}
use Rattle.sheet.proofs.Inputs.{DecidedBy}
use Rattle.sheet.proofs.Heads.{length_sheet}
use Rattle.plan.specs.Layout.{layout_in, size_after, fault_count}
use Rattle.plan.specs.Checks.{Limits, most_faults, plan_error_by, torus_plans, plan_error}
use Rattle.plan.proofs.Weights.{head_most}
use Rattle.plan.proofs.Plans.{head_least, accepted}

-- 2, 3 or 4.
long_error : Bool → Bool → ℕ
long_error a b = declined a plan_version_unknown then declined b many_faults then wrong_length

abbrev wrong_version : List ℕ → Bool
wrong_version p = not (layout_in p).known

abbrev many : List ℕ → Bool
many p = ltb most_faults (fault_count p)

module _ (L : Limits) (p : List ℕ) (long : 781 ≤ length p) where
  -- No count up to 256 fits the length.
  wrong_length_law : many p ≡ false → length_is p (size_after (layout_in p) (fault_count p)) ≡ false
  wrong_length_law f =
      let n = size_after (layout_in p) (fault_count p) in
      test (length_is p n) (λ e. absurd (omega (arith, length_sheet p n e (omega arith), head_most (version p), ltb-false most_faults (fault_count p) f))) (λ e. e)

  long_error_law : plan_error L p ≡ long_error (wrong_version p) (many p)
  unfolding plan_error_by long_error
  long_error_law =
      let short = le-ltb (length p) (layout_in p).head_size (omega (arith, head_most (version p))) in
      test (wrong_version p)
      (λ v. rw (short, v))
      (λ v. test (many p) (λ f. rw (short, v, f)) (λ f. rw (short, v, f, wrong_length_law f)))

  pub long_declined : plan_error L p ≡ 0 → ⊥
  long_declined h = let a = (accepted torus_plans L p h).head in omega (arith, head_most (version p), a.sized, a.few)

module _ (k : ℕ) (p : List ℕ) (h : 781 ≤ k) where
  same_byte : (i : ℕ) → i < 12 → byte (take k p) i ≡ byte p i
  same_byte i l = get_or-take k p i 0 (omega arith)

  same_version : version (take k p) ≡ version p
  unfolding version
  same_version = same_byte 0 (omega arith)

  same_count : fault_count (take k p) ≡ fault_count p
  unfolding fault_count
  same_count =
      let at = (layout_in p).head_size - 2 in
      let most = head_most (version p) in
      let least = head_least (version p) in
      rw (same_version, same_byte at (omega arith), same_byte (at + 1) (omega arith))

pub error_decided : (L : Limits) → DecidedBy 781 (plan_error L)
error_decided L k p h l =
    long_error_law L (take k p) (omega (arith, length-take k p))
    ∙ rw (same_version k p h, same_count k p h) (sym (long_error_law L p (omega arith)))
