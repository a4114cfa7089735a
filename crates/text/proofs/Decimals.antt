-- The laws of `specs/Decimal.antt` that the reading loop cites.
use Prim.Native.Nat.{ℕ, suc, ◌+◌, ◌≤◌, ◌<◌}
use mathlib.Core.Bool.{Bool, true, false, ◌&&◌}
use mathlib.Core.List.{List, [], ◌∷◌}
use mathlib.Core.Path.{◌≡◌, refl, sym}
use native.Mathlib.Numerals.{add-one}
use native.Mathlib.Omega.{arith}
use lib.Dec.{leb}
use lib.ListN.{length, drop, get_or, drop_of_length-le}
use lib.Seq.{drop-cons}
use borrow.Author.Tests.{le-leb, lt-leb, leb-true, leb-false}
use Rattle.std.proofs.Common.{Some, None}
use Rattle.std.proofs.lemmas.Option.{none-some}
use Rattle.text.specs.Decimal.{is_digit, with, longer_by, all_digits, value_from, number_from, number_of}
use Rattle.text.proofs.Cases.{test}

and_false : (b : Bool) → (b && false) ≡ false
and_false true = refl
and_false false = refl

-- more digits make no smaller number
grows : (v : ℕ) (s : List ℕ) → v ≤ value_from v s
unfolding value_from
grows v [] = omega arith
grows v (b ∷ s) = omega (arith, grows (with v b) s)

pub no_digits : (most : ℕ) (s : List ℕ) → length s ≡ 0 → None ≡ number_of most s
unfolding number_of
no_digits most [] e = refl
no_digits most (b ∷ s) e = absurd (omega arith)

pub begins : (most : ℕ) (s : List ℕ) → (length s ≡ 0 → ⊥) → number_of most s ≡ number_from most 0 s
unfolding number_of
begins most [] e = absurd (e refl)
begins most (b ∷ s) e = refl

-- a digit that fits, and what it makes of the number
record Fits (most v b n : ℕ) : Type 0 where
  digit : is_digit b ≡ true
  room : with v b ≤ most
  same : with v b ≡ n

fits : (most v b n : ℕ) → longer_by most v b ≡ Some n → Fits most v b n
unfolding longer_by
fits most v b n e =
    test (is_digit b)
    (λ d. test (leb (with v b) most)
    (λ l. let f : Some (with v b) ≡ Some n = rw (d, l) at e in record { digit = d; room = leb-true _ _ l; same = cc })
    (λ l. absurd (none-some _ (rw (d, l) at e))))
    (λ d. absurd (none-some _ (rw d at e)))

pub small : (most v b n : ℕ) → longer_by most v b ≡ Some n → n ≤ most
small most v b n e = omega (arith, fits most v b n e)

module _ (most v b : ℕ) (s : List ℕ) where
  goes_on : (n : ℕ) → longer_by most v b ≡ Some n → number_from most v (b ∷ s) ≡ number_from most n s
  unfolding number_from all_digits value_from
  goes_on n e = let f = fits most v b n e in rw (f.digit, f.same)

  stops : longer_by most v b ≡ None → number_from most v (b ∷ s) ≡ None
  unfolding longer_by number_from all_digits value_from
  stops e =
      test (is_digit b)
      (λ d. test (leb (with v b) most)
      (λ l. absurd (none-some _ (sym (rw (d, l) at e))))
      (λ l. rw (d, lt-leb (value_from (with v b) s) most (omega (arith, leb-false (with v b) most l, grows (with v b) s)), and_false)))
      (λ d. rw d)

module _ (most v i : ℕ) (s : List ℕ) (h : i < length s) where
  pub turn : (n : ℕ) → longer_by most v (get_or s i 0) ≡ Some n → number_from most v (drop i s) ≡ number_from most n (drop (i + 1) s)
  turn n e = rw (add-one, drop-cons s i 0) (goes_on most v (get_or s i 0) (drop (suc i) s) n e)

  pub declined : longer_by most v (get_or s i 0) ≡ None → number_from most v (drop i s) ≡ None
  declined e = rw (drop-cons s i 0) (stops most v (get_or s i 0) (drop (suc i) s) e)

pub ends : (most v i : ℕ) (s : List ℕ) → length s ≤ i → v ≤ most → number_from most v (drop i s) ≡ Some v
unfolding number_from all_digits value_from
ends most v i s h small = rw (drop_of_length-le s h, le-leb v most small)
