-- The weights of a sheet, by whether its version has weight bytes: none or three.
use Prim.Native.Nat.{ℕ, zero, suc, ◌+◌, ◌≤◌}
use native.Mathlib.Omega.{arith}
use mathlib.Core.Path.{◌≡◌, refl, sym, ◌∙◌}
use mathlib.Core.List.{List}
use lib.Dec.{eqb}
use Rattle.theory.proofs.Cases.{test}
use Rattle.sheet.specs.Bytes.{byte}
use Rattle.weights.specs.declared.weights.Weights.{Weights}
use Rattle.weights.specs.Weights.{ones}
use Rattle.plan.specs.Layout.{layout_of, layout_in, weights_by, weights_of}

pub head_size_law : (v : ℕ) → (layout_of v).head_size ≡ 9 + (layout_of v).weights
unfolding layout_of
head_size_law v = refl

pub by_weights : (P : ℕ → Type 0) (v : ℕ) → P 0 → P 3 → P (layout_of v).weights
unfolding layout_of
by_weights P v none three = test (eqb v 2) (λ e. rw e three) (λ e. rw e none)

pub head_most : (v : ℕ) → (layout_of v).head_size ≤ 12
head_most v = let most = by_weights (λ k. k ≤ 3) v (omega arith) (omega arith) in omega (arith, head_size_law v)

pub three_weights : (v : ℕ) → ((layout_of v).weights ≡ 0 → ⊥) → (layout_of v).weights ≡ 3
three_weights v = by_weights (λ k. (k ≡ 0 → ⊥) → k ≡ 3) v (λ ne. absurd (ne refl)) (λ _. refl)

module _ (s : List ℕ) (n : ℕ) (e : n ≡ (layout_in s).weights) where
  pub no_weights_law : n ≡ 0 → ones ≡ weights_of s
  unfolding weights_by
  no_weights_law z = rw (sym e ∙ z)

  pub some_weights : (n ≡ 0 → ⊥) → ◌≡◌ {A = Weights} (record { x = byte s 7; y = byte s 8; z = byte s 9 }) (weights_of s)
  unfolding weights_by
  some_weights ne = read (layout_in s).weights (λ z. ne (e ∙ z))
    where
      read : (k : ℕ) → (k ≡ 0 → ⊥) → ◌≡◌ {A = Weights} (record { x = byte s 7; y = byte s 8; z = byte s 9 }) (weights_by k s)
      read zero z = absurd (z refl)
      read (suc k) z = refl
