-- What writing a sheet gives and leaves.
use Prim.Native.Nat.{ℕ, zero, suc, ◌≤◌, ◌<◌}
use native.Mathlib.Omega.{arith}
use mathlib.Core.Path.{◌≡◌, refl, sym, ap, ◌∙◌}
use mathlib.Core.Bool.{true, false, false≢true}
use mathlib.Core.List.{List, ◌++◌}
use lib.ListN.{length, take, drop}
use lib.Seq.{take-append_seam, drop-append_seam}
use borrow.Author.Tests.{lt-ltb, le-ltb}
use Rattle.std.specs.Prelude.{Result, Ok, Err, is_err}
use Rattle.numbers.specs.Numbers.{output_short}
use Rattle.numbers.specs.declared.Refusal.{Refusal}
use Rattle.numbers.specs.declared.Refusal.TheVariants.{PlanShort, PlanVersionUnknown, ManyFaults, WrongLength, ExtentOutside, WrongWrap, NoSuchFault, FaultNotAbove, NodeOutside, DeadEnd, NoClearChoice, OutputShort, WrongRouteSheet, WrongPacket, NotAllowed, WeightOutside, EntryNotKept, NotBack}
use Rattle.numbers.specs.Refusals.{number, answer_number}
use Rattle.numbers.proofs.Refusals.{answer-0, answer-number}
use Rattle.theory.proofs.Checks.{declines}
use Rattle.sheet.specs.Output.{room_error, written, out_after}

-- A number with which a call declines is not 0.
pub of_refusal : (P : ℕ → Type 0) → ((k : ℕ) → P (suc k)) → (e : ℕ) → (e ≡ 0 → ⊥) → P e
of_refusal P f zero n = absurd (n refl)
of_refusal P f (suc k) n = f k

-- Nor is that of a cause.
pub of_number : (P : ℕ → Type 0) → ((k : ℕ) → P (suc k)) → (r : Refusal) → P (number r)
of_number P f PlanShort = f 0
of_number P f PlanVersionUnknown = f 1
of_number P f ManyFaults = f 2
of_number P f WrongLength = f 3
of_number P f ExtentOutside = f 4
of_number P f WrongWrap = f 5
of_number P f NoSuchFault = f 6
of_number P f FaultNotAbove = f 7
of_number P f NodeOutside = f 8
of_number P f DeadEnd = f 9
of_number P f NoClearChoice = f 10
of_number P f OutputShort = f 11
of_number P f WrongRouteSheet = f 12
of_number P f WrongPacket = f 13
of_number P f NotAllowed = f 14
of_number P f WeightOutside = f 15
of_number P f EntryNotKept = f 16
of_number P f NotBack = f 17

pub not_0 : (r : Refusal) → number r ≡ 0 → ⊥
not_0 r = of_number (λ n. n ≡ 0 → ⊥) (λ k z. absurd (omega arith)) r

-- An answer's number is 0 just where it is no refusal.
pub number_ok : {A : Type 0} (r : Result A Refusal) → is_err r ≡ false → answer_number r ≡ 0
number_ok (Ok a) h = refl
number_ok (Err e) h = absurd (false≢true (sym h))

pub number_err : {A : Type 0} (r : Result A Refusal) → is_err r ≡ true → answer_number r ≡ 0 → ⊥
number_err (Ok a) h = absurd (false≢true h)
number_err (Err e) h = not_0 e

-- What a call that writes answers and leaves, where its checks give k.
abbrev pub Put : ℕ → List ℕ → List ℕ → Result ℕ Refusal → List ℕ → Type 0
Put k s o w t = record { value : w ≡ written k s; number : answer_number w ≡ k; out_after : t ≡ out_after k s o }

pub refused : (k : ℕ) (r : Refusal) (s o : List ℕ) → number r ≡ k → Put k s o (Err r) o
unfolding out_after
refused k r s o h = record {
  value = rw (← h, answer-number r (length s));
  number = h;
  out_after = rw (← h) (of_number (λ n. o ≡ out_after n s o) (λ n. refl) r);
}

module _ (e : ℕ) (s o : List ℕ) where
  pub unread : (e ≡ 0 → ⊥) → room_error e s o ≡ e
  unfolding room_error
  unread h = declines e _ h

  pub no_room : e ≡ 0 → length o < length s → room_error e s o ≡ output_short
  unfolding room_error
  no_room h l = rw (h, lt-ltb (length o) (length s) l)

  pub room : e ≡ 0 → length s ≤ length o → room_error e s o ≡ 0
  unfolding room_error
  room h l = rw (h, le-ltb (length o) (length s) l)

  -- A sheet that is copied.
  pub copied : e ≡ 0 → length s ≤ length o → (n : ℕ) (t : List ℕ) → n ≡ length s → t ≡ s ++ drop (length s) o → Put (room_error e s o) s o (Ok n) t
  unfolding out_after
  copied h l n t en et = rw (room h l) (record { value = ap Ok en ∙ rw (answer-0 (length s)); number = refl; out_after = et })

  -- What is written is the sheet itself.
  pub same_bytes : e ≡ 0 → length s ≤ length o → take (length s) (out_after (room_error e s o) s o) ≡ s
  unfolding out_after
  same_bytes h l = rw (room h l) (take-append_seam s (drop (length s) o))

  -- What writing answers and leaves where there is room.
  module _ (h : e ≡ 0) (l : length s ≤ length o) (w : Result ℕ Refusal) (t : List ℕ) (made : (w ≡ written (room_error e s o) s) × (t ≡ out_after (room_error e s o) s o)) where
    all_written : w ≡ Ok (length s)
    all_written = made.0 ∙ rw (room h l, answer-0 (length s))

    pub size_written : (n : ℕ) → w ≡ Ok n → n ≡ length s
    size_written n q = let b = all_written in cc

    pub not_refused : (r : Refusal) → w ≡ Err r → ⊥
    not_refused r q = let b = all_written in let z : ◌≡◌ {A = ℕ} 0 1 = cc in omega arith

    pub bytes_written : t ≡ out_after 0 s o
    bytes_written = rw (room h l) at made.1

    pub front_written : take (length s) t ≡ s
    unfolding out_after
    front_written = ap (take (length s)) bytes_written ∙ take-append_seam s (drop (length s) o)

    pub rest_written : drop (length s) t ≡ drop (length s) o
    unfolding out_after
    rest_written = ap (drop (length s)) bytes_written ∙ drop-append_seam s (drop (length s) o)
