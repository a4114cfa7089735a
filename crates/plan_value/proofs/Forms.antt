-- A fault in its three bytes.
use Prim.Native.Nat.{ℕ, suc, ◌+◌, ◌*◌, ◌<◌}
use native.Mathlib.Numerals.{add-one}
use native.Mathlib.Omega.{arith}
use mathlib.Core.Path.{◌≡◌, refl, ◌∙◌}
use mathlib.Core.List.{List, ◌++◌}
use lib.ListN.{length}
use lib.Seq.{sets, get_or-append-add}
use Rattle.sheet.specs.Bytes.{byte, AreBytes, list_from}
use Rattle.sheet.proofs.Records.{word_of, upper_of, lower_of, word_below}
use Rattle.sheet.proofs.Forms.{Lawful}
use Rattle.sheet.proofs.Encoding.{Encoding, onward}
use Rattle.plan.specs.declared.layout.Fault.{Fault}
use Rattle.plan.specs.Layout.{fault_form}
use Rattle.plan_value.specs.Value.{FaultFits}
use Rattle.plan_value.specs.Steps.{put_fault}

-- A fault put in its place is its bytes in a row.
pub put_row : (head : ℕ) (l : List ℕ) (i : ℕ) (f : Fault) → put_fault head l i f ≡ sets l (head + 3 * i) (fault_form.bytes f)
put_row head l i f =
    let at = head + 3 * i in
    let e : at + 2 ≡ suc (suc at) = omega arith in
    rw (add-one at, e)

behind : (front s : List ℕ) (at : ℕ) → fault_form.read (front ++ s) (length front + at) ≡ fault_form.read s at
behind front s at =
    let e₁ : length front + at + 1 ≡ length front + (at + 1) = omega arith in
    let e₂ : length front + at + 2 ≡ length front + (at + 2) = omega arith in
    rw (e₁, e₂, get_or-append-add front s at 0, get_or-append-add front s (at + 1) 0, get_or-append-add front s (at + 2) 0)

same : (s : List ℕ) → AreBytes s → (at : ℕ) → fault_form.bytes (fault_form.read s at) ≡ list_from (byte s) at 3
unfolding list_from
same s bytes at =
    let e : at + 2 ≡ suc (suc at) = omega arith in
    rw (upper_of (byte s at) (byte s (at + 1)) (bytes at) (bytes (at + 1)), lower_of (byte s at) (byte s (at + 1)) (bytes (at + 1)), e, add-one at)

pub lawful : Lawful fault_form FaultFits
lawful = record {
  long = λ f. refl;
  behind = behind;
  back = λ f s h. rw (word_of f.node h);
  same = same;
  fits = λ s bytes at. word_below s bytes at;
}

-- The loop that writes the faults behind the head, of `size` bytes.
abbrev pub Encoded : ℕ → ℕ → (ℕ → Fault) → List ℕ → List ℕ → ℕ → Type 0
Encoded size n f head bytes i = Encoding fault_form lawful.long size n f head bytes i

pub fault_put : (size n : ℕ) (f : ℕ → Fault) (head bytes : List ℕ) (i : ℕ) → Encoded size n f head bytes i → (x : Fault) (after : List ℕ) → x ≡ f i → after ≡ put_fault size bytes i x → i < n → Encoded size n f head after (i + 1)
fault_put size n f head bytes i g x after e q h = onward fault_form lawful.long size n f head bytes i g x after e (q ∙ put_row size bytes i x) h
