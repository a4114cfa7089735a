-- Some number below n is such.
use Prim.Native.Nat.{ℕ, zero, suc, ◌+◌, ◌≤◌, ◌<◌}
use native.Mathlib.Omega.{arith}
use native.Mathlib.Decide.{ℕ_discrete}
use mathlib.Core.Path.{◌≡◌, refl, sym, ap, ◌∙◌}
use mathlib.Core.Logic.{⊎_elim}
use mathlib.Core.Bool.{Bool, true, false, ◌||◌, true≢false, false≢true}
use Rattle.theory.proofs.Cases.{by_le}
use Rattle.theory.proofs.Bools.{same_test}
use Rattle.sheet.specs.Bytes.{list_from}
use Rattle.plan.specs.declared.layout.Fault.{Fault}
use Rattle.dead.specs.Dead.{some}
use Rattle.dead.proofs.Bools.{either_of, left_true, right_true}
use Rattle.losses.specs.Loss.{some_below}

pub some_true : (n : ℕ) (f : ℕ → Bool) (i : ℕ) → i < n → f i ≡ true → some_below n f ≡ true
unfolding some_below
some_true zero f i l e = absurd (omega arith)
some_true (suc n) f i l e = go (ℕ_discrete i n) (f n) refl (λ k. some_true n f i k e)
  where
    go : Dec (i ≡ n) → (b : Bool) → f n ≡ b → (i < n → some_below n f ≡ true) → (b || some_below n f) ≡ true
    go d true q r = refl
    go (yes k) false q r = absurd (true≢false (sym e ∙ ap f k ∙ q))
    go (no k) false q r = r (by_le n i (λ a. absurd (k (omega arith))) (λ a. a))

pub true_some : (n : ℕ) (f : ℕ → Bool) → some_below n f ≡ true → (i : ℕ) × (i < n) × (f i ≡ true)
unfolding some_below
true_some zero f e = absurd (false≢true e)
true_some (suc n) f e = go (f n) refl e (λ h. true_some n f h)
  where
    go : (b : Bool) → f n ≡ b → (b || some_below n f) ≡ true → (some_below n f ≡ true → (i : ℕ) × (i < n) × (f i ≡ true)) → (i : ℕ) × (i < suc n) × (f i ≡ true)
    go true q h r = (n, omega arith, q)
    go false q h r = let k = r h in (k.0, omega (arith, k.1), k.2)

-- ---- some fault of a list, by its number
module _ (such : Fault → Bool) (f : ℕ → Fault) where
  listed_true : (n i k : ℕ) → i ≤ k → k < i + n → such (f k) ≡ true → some such (list_from f i n) ≡ true
  unfolding some list_from
  listed_true zero i k l b e = absurd (omega arith)
  listed_true (suc n) i k l b e =
      by_le k i
      (λ a. let q : i ≡ k = omega arith in left_true (such (f i)) _ (rw q e))
      (λ a. right_true (such (f i)) _ (listed_true n (suc i) k (omega arith) (omega arith) e))

  true_listed : (n i : ℕ) → some such (list_from f i n) ≡ true → (k : ℕ) × (k < i + n) × (such (f k) ≡ true)
  unfolding some list_from
  true_listed zero i e = absurd (false≢true e)
  true_listed (suc n) i e =
      ⊎_elim
      (λ (a : such (f i) ≡ true). (i, omega arith, a))
      (λ a. let r = true_listed n (suc i) a in (r.0, omega (arith, r.1), r.2))
      (either_of (such (f i)) _ e)

  pub some_listed : (n : ℕ) (g : ℕ → Bool) → ((k : ℕ) → k < n → g k ≡ such (f k)) → some_below n g ≡ some such (list_from f 0 n)
  some_listed n g same =
      same_test _ _
      (λ e. let k = true_some n g e in listed_true n 0 k.0 (omega arith) (omega (arith, k.1)) (sym (same k.0 k.1) ∙ k.2))
      (λ e. let k = true_listed n 0 e in let l : k.0 < n = omega (arith, k.1) in some_true n g k.0 l (same k.0 l ∙ k.2))
