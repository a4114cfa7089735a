-- The least of a number and of some others, part by part.
use Prim.Native.Nat.{ℕ, ◌≤◌}
use native.Mathlib.Omega.{arith}
use mathlib.Core.Path.{refl, ◌∙◌}
use mathlib.Core.Logic.{◌⊎◌, inl, inr, ⊎_elim}
use Rattle.search.specs.RowNumber.{Lowers}

module _ {P : ℕ → Type 0} where
  pub kept : (best : ℕ) → ((n : ℕ) → P n → best ≤ n) → Lowers best best P
  kept best h = record { low = omega arith; each = h; one = inl refl }

module _ {P Q R : ℕ → Type 0} where
  pub lower_both : (best m r : ℕ) → Lowers best m P → Lowers m r Q → ((n : ℕ) → R n → P n ⊎ Q n) → ((n : ℕ) → P n → R n) → ((n : ℕ) → Q n → R n) → Lowers best r R
  lower_both best m r a b split left right = record {
    low = omega (arith, a.low, b.low);
    each = λ n h. ⊎_elim (λ p. omega (arith, a.each n p, b.low)) (λ q. b.each n q) (split n h);
    one = ⊎_elim (λ e. ⊎_elim (λ g. inl (e ∙ g)) (λ p. inr (left r (rw e p))) a.one) (λ q. inr (right r q)) b.one;
  }

module _ {P R : ℕ → Type 0} where
  -- Some of them looked at before all.
  pub lower_first : (best m r : ℕ) → Lowers best m P → Lowers m r R → ((n : ℕ) → P n → R n) → Lowers best r R
  lower_first best m r a b left = lower_both best m r a b (λ n h. inr h) left (λ n h. h)

  -- The same numbers.
  pub lower_same : (best r : ℕ) → Lowers best r P → ((n : ℕ) → P n → R n) → ((n : ℕ) → R n → P n) → Lowers best r R
  lower_same best r a there back = record { low = a.low; each = λ n h. a.each n (back n h); one = ⊎_elim inl (λ p. inr (there r p)) a.one }
