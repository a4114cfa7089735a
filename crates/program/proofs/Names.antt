-- Two texts that are written one behind the other, as far as there is room, are the front of both. `two_texts` says it of a writer's steps.
use Prim.Native.Nat.{ℕ, ◌+◌, ◌-◌, ◌≤◌, min}
use native.Mathlib.Omega.{arith}
use mathlib.Core.Path.{◌≡◌, refl, sym, ap, ◌∙◌}
use mathlib.Core.Bool.{Bool, true, false}
use mathlib.Core.List.{List, ◌++◌, append-nil}
use lib.ListN.{length, take}
use lib.Seq.{paste, take_all, take-append-le, take-append-add, take-paste, length-paste}
use lib.Dec.{leb}
use borrow.Author.Tests.{leb-true, leb-false}

by_le : {P : Type 0} (m n : ℕ) → (m ≤ n → P) → (n ≤ m → P) → P
by_le {P} m n f g = go (leb m n) refl
  where
    go : (b : Bool) → leb m n ≡ b → P
    go true e = f (leb-true m n e)
    go false e = g (omega (arith, leb-false m n e))

front_of : (s : List ℕ) (n m : ℕ) → n ≡ min m (length s) → take n s ≡ take m s
front_of s n m e =
    by_le m (length s)
    (λ h. let z : n ≡ m = omega arith in rw z)
    (λ h. let z : n ≡ length s = omega arith in rw z (take_all (length s) s (omega arith) ∙ sym (take_all m s h)))

module _ (room s t : List ℕ) (a b : ℕ) (ea : a ≡ min (length s) (length room)) (eb : b ≡ min (a + length t) (length room)) where
  abbrev once : List ℕ
  once = paste room 0 s a

  long : length once ≡ length room
  long = length-paste room 0 s a (omega arith) (omega arith)

  first : take a once ≡ take a s
  first = let z : 0 + a ≡ a = omega arith in ap (λ k. take k once) (sym z) ∙ take-paste room 0 s a (omega arith) (omega arith)

  both : take b (paste once a t (b - a)) ≡ take a s ++ take (b - a) t
  both =
      let z : b ≡ a + (b - a) = omega arith in
      ap (λ k. take k (paste once a t (b - a))) z ∙ take-paste once a t (b - a) (omega (arith, long)) (omega arith) ∙ ap (λ l. l ++ take (b - a) t) first

  cut : take a s ++ take (b - a) t ≡ take (length room) (s ++ t)
  cut =
      by_le (length s) (length room)
      (λ h.
      let z : length room ≡ length s + (length room - length s) = omega arith in
      let p : take a s ≡ s = take_all a s (omega arith) in
      let q : take (b - a) t ≡ take (length room - length s) t = front_of t (b - a) (length room - length s) (omega arith) in
      ap (λ l. l ++ take (b - a) t) p ∙ ap (λ l. s ++ l) q ∙ sym (ap (λ k. take k (s ++ t)) z ∙ take-append-add s t (length room - length s)))
      (λ h.
      let z : b - a ≡ 0 = omega arith in
      let y : a ≡ length room = omega arith in
      ap (λ k. take a s ++ take k t) z ∙ append-nil (take a s) ∙ ap (λ k. take k s) y ∙ sym (take-append-le (length room) s t h))

  written_both : take b (paste once a t (b - a)) ≡ take (length room) (s ++ t)
  written_both = both ∙ cut

pub two_texts :
    (room s t : List ℕ) (n : ℕ) → length room ≡ n → (o : List ℕ) → o ≡ room → (at : ℕ) → at ≡ 0 → (a : ℕ) → a ≡ min (at + length s) (length o) →
    (o' : List ℕ) → o' ≡ paste o at s (a - at) → (b : ℕ) → b ≡ min (a + length t) (length o') → (p : List ℕ) → p ≡ paste o' a t (b - a) →
    (r : List ℕ) → r ≡ take b p → r ≡ take n (s ++ t)
two_texts room s t n en o eo at z a ea o' eo' b eb p ep r er =
    let same : a - 0 ≡ a = omega arith in
    let ea' : a ≡ min (length s) (length room) = omega (arith, ap length eo) in
    let is : o' ≡ paste room 0 s a = eo' ∙ rw (eo, z, same) in
    let eb' : b ≡ min (a + length t) (length room) = omega (arith, ap length is, length-paste room 0 s a (omega arith) (omega arith)) in
    er ∙ ap (take b) (ep ∙ ap (λ l. paste l a t (b - a)) is) ∙ written_both room s t a b ea' eb' ∙ ap (λ k. take k (s ++ t)) en
