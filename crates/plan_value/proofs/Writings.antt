-- The sheet of a plan, and what is read from it.
use Prim.Native.Nat.{ℕ, suc, ◌+◌, ◌*◌, ◌-◌, ◌<◌}
use native.Mathlib.Omega.{arith}
use mathlib.Core.Path.{◌≡◌, refl, sym, ap, ◌∙◌}
use mathlib.Core.Bool.{Bool, true, false}
use mathlib.Core.List.{List, ◌∷◌, ◌++◌}
use lib.ListN.{length, get_or, take, length-append}
use lib.Seq.{get_or-take}
use lib.Dec.{ltb}
use borrow.Author.Tests.{lt-ltb, le-ltb}
use Rattle.numbers.specs.Numbers.{plan_version_unknown, many_faults}
use Rattle.sheet.specs.Bytes.{word, word_bytes, list_from}
use Rattle.sheet.specs.Head.{version, front_bytes}
use Rattle.sheet.specs.Records.{records_bytes}
use Rattle.sheet.proofs.Records.{word_of, from_length, from_at, from_same}
use Rattle.sheet.proofs.Forms.{records_length, records_read}
use Rattle.sheet.specs.Output.{room_error}
use Rattle.sheet.proofs.Outputs.{unread}
use Rattle.plan_value.specs.declared.reading.Plan.{Plan}
use Rattle.plan.specs.declared.layout.Fault.{Fault}
use Rattle.plan.specs.Layout.{layout_of, layout_in, fault_form, size_after, shape_of, weights_by, weights_of, fault_count, fault_at, faults_of}
use Rattle.plan.specs.Checks.{Limits, most_faults, Rules, plan_error_by}
use Rattle.plan.proofs.Weights.{head_size_law, by_weights}
use Rattle.plan_value.specs.Reading.{no_fault, fault_array, plan_of}
use Rattle.plan_value.specs.Writing.{plan_faults, weight_bytes, head_bytes, sheet_of}
use Rattle.plan_value.specs.Value.{FaultFits, Fits, held_weights, cleared}
use Rattle.plan_value.proofs.Forms.{lawful}

-- ---- the head
-- With k weight bytes, and what follows it.
abbrev head_with : ℕ → Plan → List ℕ
head_with k p =
    front_bytes p.version (size_after (layout_of p.version) p.count) ++ (p.shape.x ∷ p.shape.y ∷ p.shape.z ∷ p.shape.wrap ∷ (weight_bytes k p.weights ++ word_bytes p.count))

module _ (p : Plan) where
  abbrev weights : ℕ
  weights = (layout_of p.version).weights

  pub head_length : length (head_bytes p) ≡ (layout_of p.version).head_size
  unfolding head_bytes weight_bytes
  head_length = rw (head_size_law p.version) (by_weights (λ k. length (head_with k p) ≡ 9 + k) p.version refl refl)

  pub faults_count : length (plan_faults p) ≡ p.count
  unfolding plan_faults
  faults_count = from_length (λ i. get_or p.faults i no_fault) p.count 0

  pub sheet_length : length (sheet_of p) ≡ (layout_of p.version).head_size + 3 * p.count
  unfolding sheet_of
  sheet_length =
      length-append (head_bytes p) (records_bytes fault_form (plan_faults p))
      ∙ omega (arith, head_length, records_length fault_form FaultFits lawful (plan_faults p), faults_count)

  head_layout : layout_in (sheet_of p) ≡ layout_of p.version
  unfolding version sheet_of head_bytes
  head_layout = refl

  head_version : version (sheet_of p) ≡ p.version
  unfolding version sheet_of head_bytes
  head_version = refl

  head_shape : shape_of (sheet_of p) ≡ p.shape
  unfolding shape_of sheet_of head_bytes
  head_shape = refl

  head_weights : weights_of (sheet_of p) ≡ held_weights weights p.weights
  unfolding sheet_of head_bytes weight_bytes weights_by held_weights
  head_weights = rw head_layout (by_weights (λ k. weights_by k (head_with k p ++ records_bytes fault_form (plan_faults p)) ≡ held_weights k p.weights) p.version refl refl)

  head_count : p.count < 65536 → fault_count (sheet_of p) ≡ p.count
  unfolding fault_count version layout_of sheet_of head_bytes weight_bytes
  head_count h = by_weights (λ k. word (head_with k p ++ records_bytes fault_form (plan_faults p)) (9 + k - 2) ≡ p.count) p.version (word_of p.count h) (word_of p.count h)

  -- A plan of a version that there is none of is declined with 2, and one of over 256 faults with 3.
  module _ (R : Rules) (L : Limits) (o : List ℕ) where
    abbrev s : List ℕ
    s = sheet_of p

    abbrev Declined : ℕ → Type 0
    Declined n = room_error (plan_error_by R L s) s o ≡ n

    long : ltb (length s) (layout_in s).head_size ≡ false
    long = le-ltb (length s) (layout_in s).head_size (omega (arith, sheet_length, ap (λ l. l.head_size) head_layout))

    same_known : (known : Bool) → known ≡ (layout_of p.version).known → (layout_in s).known ≡ known
    same_known known e = ap (λ l. l.known) head_layout ∙ sym e

    declined : (n : ℕ) → plan_error_by R L s ≡ suc n → Declined (suc n)
    declined n e = unread (plan_error_by R L s) s o (λ z. omega (arith, e, z)) ∙ e

    pub unknown_version : (known : Bool) → known ≡ (layout_of p.version).known → known ≡ false → Declined plan_version_unknown
    unfolding plan_error_by
    unknown_version known e none = declined 1 (rw (long, same_known known e ∙ none))

    pub too_many : (known : Bool) → known ≡ (layout_of p.version).known → known ≡ true → most_faults < p.count → p.count < 65536 → Declined many_faults
    unfolding plan_error_by
    too_many known e some h b = declined 2 (rw (long, same_known known e ∙ some, lt-ltb most_faults (fault_count s) (omega (arith, head_count b))))

-- ---- the faults
module _ (p : Plan) (h : Fits p) where
  all_fit : (i : ℕ) → i < length (plan_faults p) → FaultFits (get_or (plan_faults p) i no_fault)
  unfolding plan_faults
  all_fit i b = rw (from_at (λ k. get_or p.faults k no_fault) p.count 0 i no_fault (omega (arith, faults_count p))) (h.faults (0 + i) (omega (arith, faults_count p)))

  faults_read : faults_of (sheet_of p) ≡ plan_faults p
  unfolding faults_of fault_at sheet_of
  faults_read =
      ap (list_from (fault_at (sheet_of p)) 0) (head_count p h.count ∙ sym (faults_count p))
      ∙ (records_read fault_form FaultFits lawful no_fault (head_bytes p) (layout_in (sheet_of p)).head_size (head_length p ∙ ap (λ l. l.head_size) (sym (head_layout p))) (plan_faults p) all_fit)

  -- The sheet of a plan, read, is the plan with zeros past its faults.
  pub plan_read : plan_of (sheet_of p) ≡ cleared p
  unfolding plan_of fault_array cleared
  plan_read = rw (head_weights p, head_shape p, head_count p h.count, faults_read, head_version p)

-- The first n faults of an array, one by one.
pub taken : (l : List Fault) (n : ℕ) → list_from (λ k. get_or (take n l) k no_fault) 0 n ≡ list_from (λ k. get_or l k no_fault) 0 n
taken l n = from_same _ _ n 0 (λ k a b. get_or-take n l k no_fault (omega arith))

-- What is made record by record behind its head is the sheet.
pub whole : (p : Plan) (head t : List ℕ) → take (layout_of p.version).head_size head ≡ head_bytes p → t ≡ take (layout_of p.version).head_size head ++ records_bytes fault_form (list_from (λ k. get_or p.faults k no_fault) 0 p.count) → t ≡ sheet_of p
unfolding sheet_of plan_faults
whole p head t e q = q ∙ rw e
