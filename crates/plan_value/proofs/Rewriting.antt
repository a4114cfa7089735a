-- What is read from an accepted sheet: a plan that fits, has zeros past its faults, and is written as the same bytes.
use Prim.Native.Nat.{ℕ, ◌+◌, ◌*◌, ◌-◌, ◌≤◌}
use native.Mathlib.Omega.{arith}
use mathlib.Core.Path.{◌≡◌, refl, sym, ap, ◌∙◌}
use mathlib.Core.List.{List, ◌∷◌, ◌++◌}
use lib.ListN.{length, take}
use Rattle.sheet.specs.Bytes.{byte, word, AreBytes, word_bytes, list_from}
use Rattle.sheet.specs.Head.{version, front_bytes}
use Rattle.sheet.proofs.Records.{from_length, array_first, array_from, front}
use Rattle.sheet.proofs.Heads.{word_same, front_same}
use Rattle.sheet.proofs.Forms.{records_same}
use Rattle.plan.specs.Layout.{layout_of, layout_in, fault_form, size_after, shape_of, weights_by, weights_of, fault_count, fault_at, faults_of}
use Rattle.plan.specs.Checks.{Limits, most_faults, Rules, plan_error_by}
use Rattle.plan_value.specs.Reading.{no_fault, fault_array, plan_of}
use Rattle.plan_value.specs.Writing.{plan_faults, weight_bytes, head_bytes, sheet_of}
use Rattle.plan_value.specs.Value.{FaultFits, Fits, held_weights, cleared}
use Rattle.plan.proofs.Weights.{head_size_law, by_weights}
use Rattle.plan.proofs.Plans.{Head, accepted}
use Rattle.plan_value.proofs.Forms.{lawful}

counted : (s : List ℕ) → length (faults_of s) ≡ fault_count s
unfolding faults_of
counted s = from_length (fault_at s) (fault_count s) 0

-- The weights that are read are held.
held_read : (s : List ℕ) → held_weights (layout_in s).weights (weights_of s) ≡ weights_of s
unfolding held_weights weights_by
held_read s = by_weights (λ k. held_weights k (weights_by k s) ≡ weights_by k s) (version s) refl refl

module _ (s : List ℕ) (a : Head s) where
  -- The array that is read holds the faults.
  faults_same : plan_faults (plan_of s) ≡ faults_of s
  unfolding plan_faults plan_of fault_array
  faults_same = rw (← counted s) (array_first no_fault (faults_of s) most_faults (omega (arith, counted s, a.few)))

  module _ (bytes : AreBytes s) where
    -- The head with k weight bytes, of a sheet that is long enough.
    abbrev HeadSame : ℕ → Type 0
    HeadSame k =
        9 + k ≤ length s →
        front_bytes (version s) (size_after (layout_in s) (fault_count s)) ++ (byte s 3 ∷ byte s 4 ∷ byte s 5 ∷ byte s 6 ∷ (weight_bytes k (weights_by k s) ++ word_bytes (word s (9 + k - 2)))) ≡ take (9 + k) s

    front_is : (l : List ℕ) → front_bytes (version s) (size_after (layout_in s) (fault_count s)) ++ l ≡ byte s 0 ∷ byte s 1 ∷ byte s 2 ∷ l
    front_is l = ap (λ (k : List ℕ). k ++ l) (front_same s bytes (version s) (size_after (layout_in s) (fault_count s)) refl a.field)

    without : HeadSame 0
    unfolding weight_bytes weights_by list_from
    without long = front_is _ ∙ ap (λ (l : List ℕ). byte s 0 ∷ byte s 1 ∷ byte s 2 ∷ byte s 3 ∷ byte s 4 ∷ byte s 5 ∷ byte s 6 ∷ l) (word_same s bytes 7) ∙ sym (front s 9 long)

    weighed : HeadSame 3
    unfolding weight_bytes weights_by list_from
    weighed long =
        front_is _
        ∙ ap (λ (l : List ℕ). byte s 0 ∷ byte s 1 ∷ byte s 2 ∷ byte s 3 ∷ byte s 4 ∷ byte s 5 ∷ byte s 6 ∷ byte s 7 ∷ byte s 8 ∷ byte s 9 ∷ l) (word_same s bytes 10)
        ∙ sym (front s 12 long)

    head_same : head_bytes (plan_of s) ≡ take (layout_in s).head_size s
    unfolding head_bytes plan_of shape_of fault_count layout_of
    head_same = by_weights HeadSame (version s) without weighed (omega (arith, a.long, head_size_law (version s)))

    written_same : sheet_of (plan_of s) ≡ s
    unfolding sheet_of faults_of fault_at
    written_same =
        rw faults_same (records_same fault_form FaultFits lawful s bytes (layout_in s).head_size (head_bytes (plan_of s)) (fault_count s) head_same a.sized)

    fits_read : Fits (plan_of s)
    unfolding plan_of fault_array faults_of fault_at
    fits_read = record {
      count = omega (arith, a.few);
      faults = λ i b. rw (array_from no_fault (fault_at s) (fault_count s) most_faults i a.few b) (lawful.fits s bytes ((layout_in s).head_size + 3 * i));
    }

module _ (R : Rules) (L : Limits) (s : List ℕ) (h : plan_error_by R L s ≡ 0) where
  pub read_cleared : cleared (plan_of s) ≡ plan_of s
  unfolding cleared plan_of fault_array
  read_cleared = rw (faults_same s (accepted R L s h).head, held_read s)

  module _ (bytes : AreBytes s) where
    pub read_written : sheet_of (plan_of s) ≡ s
    read_written = written_same s (accepted R L s h).head bytes

    pub read_fits : Fits (plan_of s)
    read_fits = fits_read s (accepted R L s h).head bytes
