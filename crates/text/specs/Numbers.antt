-- What `decimal::read_as` reads at a type of k bits: the number, where it is below 2 ^ k.
use Rattle.std.proofs.Common.{ℕ, ◌≡◌, ◌-◌, ◌^◌, ◌≤◌, Bool, true, false, ◌&&◌, List, [], ◌∷◌, Option, Some, None, refl, sym, ◌∙◌, arith}
use Rattle.std.specs.Prelude.{leb, pos}
use Rattle.std.specs.Result.{OkIff}
use Rattle.std.specs.Int.{FitsUnsignedBits}
use Rattle.std.proofs.lemmas.Bool.Decides.{nat_tests}
use Rattle.text.specs.Decimal.{ReadAs, given, number_of, number_from, all_digits, value_from}

cut : (most small v : ℕ) (d : Bool) → small ≤ most → (n : ℕ) → given (d && leb v most) v ≡ Some n → given (d && leb v small) v ≡ given (leb n small) n
cut most small v true h n e = grind (arith, nat_tests)
cut most small v false h n e = grind arith

none : (most small v : ℕ) (d : Bool) → small ≤ most → given (d && leb v most) v ≡ None → given (d && leb v small) v ≡ None
none most small v true h e = grind (arith, nat_tests)
none most small v false h e = refl

cut_of : (most small : ℕ) (s : List ℕ) → small ≤ most → (n : ℕ) → number_of most s ≡ Some n → number_of small s ≡ given (leb n small) n
unfolding number_of number_from
cut_of most small [] h n e = grind arith
cut_of most small (b ∷ s) h n e = cut most small (value_from 0 (b ∷ s)) (all_digits (b ∷ s)) h n e

none_of : (most small : ℕ) (s : List ℕ) → small ≤ most → number_of most s ≡ None → number_of small s ≡ None
unfolding number_of number_from
none_of most small [] h e = refl
none_of most small (b ∷ s) h e = none most small (value_from 0 (b ∷ s)) (all_digits (b ∷ s)) h e

over : (k n : ℕ) → (n ≤ 2 ^ k - 1 → ⊥) → given (leb n (2 ^ k - 1)) n ≡ None
over k n h = grind (arith, nat_tests)

under : (k n x : ℕ) → n ≤ 2 ^ k - 1 → x ≡ n → given (leb n (2 ^ k - 1)) n ≡ Some x
under k n x h e = grind (arith, nat_tests)

-- A number of k bits that was read is the number of at most 2 ^ k - 1.
pub read_of_bits :
    (E : Type 0) (most k : ℕ) (s : List ℕ) (o r : Option ℕ) →
    2 ^ k - 1 ≤ most → 1 ≤ 2 ^ k → o ≡ number_of most s → ReadAs {T = ℕ} {E = E} (λ n a. OkIff a (FitsUnsignedBits k (pos n)) n) o r → r ≡ number_of (2 ^ k - 1) s
read_of_bits E most k s None r h z e a = a ∙ sym (none_of most (2 ^ k - 1) s h (sym e))
read_of_bits E most k s (Some n) None h z e a =
    sym (cut_of most (2 ^ k - 1) s h n (sym e) ∙ over k n (λ l. a.1 (omega (arith, z))))
read_of_bits E most k s (Some n) (Some x) h z e a =
    sym (cut_of most (2 ^ k - 1) s h n (sym e) ∙ under k n x (omega (arith, a.0, z)) a.1)
