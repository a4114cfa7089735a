-- Parts of a list whose ends are cut to its length.
use Prim.Native.Nat.{ℕ, ◌-◌, ◌≤◌, min}
use mathlib.Core.List.{List, []}
use mathlib.Core.Path.{◌≡◌, sym, ◌∙◌}
use native.Mathlib.Nat.{min-eq_left, min-eq_right}
use native.Mathlib.Omega.{arith}
use lib.ListN.{length, take, drop, length-drop, drop_of_length-le}
use lib.Seq.{take_all, take-length, take-nil}
use Rattle.text.proofs.Cases.{split_le}

module _ (s : List ℕ) where
  pub take_min : (n : ℕ) → take (min n (length s)) s ≡ take n s
  take_min n =
      split_le n (length s) (λ h. rw (min-eq_left h)) (λ h. rw (min-eq_right h) (take-length s ∙ sym (take_all n s h)))

  -- no more is taken than there is
  pub take_rest : (n a : ℕ) → length s ≤ n → take (n - a) (drop a s) ≡ drop a s
  take_rest n a h = take_all (n - a) (drop a s) (omega (arith, length-drop a s))

  -- a part whose ends are cut to the length is the part
  abbrev Cut : ℕ → ℕ → Type 0
  Cut a e = take (min e (length s) - min a (min e (length s))) (drop (min a (min e (length s))) s) ≡ take (e - a) (drop a s)

  within : (a e : ℕ) → a ≤ min e (length s) → Cut a e
  within a e h =
      rw (min-eq_left h)
      (split_le e (length s) (λ k. rw (min-eq_left k)) (λ k. rw (min-eq_right k) (take_rest (length s) a (omega arith) ∙ sym (take_rest e a k))))

  nothing : (a e : ℕ) → min e (length s) ≤ a → [] ≡ take (e - a) (drop a s)
  nothing a e h =
      split_le e (length s)
      (λ k. let none : e - a ≡ 0 = omega (arith, min-eq_left k) in rw none)
      (λ k. let past : length s ≤ a = omega (arith, min-eq_right k) in rw (drop_of_length-le s past) (sym (take-nil (e - a))))

  pub cut_both : (a e : ℕ) → Cut a e
  cut_both a e =
      let none : min e (length s) - min e (length s) ≡ 0 = omega arith in
      split_le a (min e (length s)) (within a e) (λ h. rw (min-eq_right h, none) (nothing a e h))
