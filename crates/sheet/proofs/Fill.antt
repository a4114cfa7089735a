-- A table that is filled from the front with the values of a function, and holds d past them.
use Prim.Native.Nat.{ℕ, zero, suc, ◌+◌, ◌≤◌, ◌<◌}
use native.Mathlib.Decide.{ℕ_discrete}
use native.Mathlib.Omega.{arith}
use mathlib.Core.Path.{◌≡◌, refl, sym, ap, ◌∙◌}
use mathlib.Core.Bool.{cond}
use mathlib.Core.List.{List}
use lib.ListN.{length, get_or, set, replicate, length-set, length-replicate, get_or-eq_default}
use lib.Dec.{ltb}
use lib.Seq.{get_or-set_same, get_or-set_other, ext_get_or}
use borrow.Author.Tests.{lt-ltb, le-ltb}
use Rattle.theory.proofs.Cases.{by_le}
use Rattle.sheet.specs.Bytes.{list_from, array_of}
use Rattle.sheet.proofs.Records.{from_length, from_at}

module _ {A : Type 0} (d : A) where
  abbrev pub Filled : (ℕ → A) → ℕ → List A → Type 0
  Filled f n l = (k : ℕ) → get_or l k d ≡ cond (ltb k n) (f k) d

  pub get_d_same : (n k : ℕ) → get_or (replicate n d) k d ≡ d
  get_d_same zero k = refl
  get_d_same (suc n) zero = refl
  get_d_same (suc n) (suc k) = get_d_same n k

  module _ (f : ℕ → A) where
    pub filled_none : (n : ℕ) → Filled f 0 (replicate n d)
    filled_none n k = get_d_same n k ∙ rw (le-ltb k 0 (omega arith))

    pub filled_more : (l : List A) (n : ℕ) (v : A) → n < length l → v ≡ f n → Filled f n l → Filled f (n + 1) (set l n v)
    filled_more l n v h e all k = go (ℕ_discrete k n)
      where
        test : (k ≡ n → ⊥) → ltb k (n + 1) ≡ ltb k n
        test ne = by_le n k (λ b. rw (le-ltb k (n + 1) (omega arith), le-ltb k n b)) (λ b. rw (lt-ltb k (n + 1) (omega arith), lt-ltb k n b))

        go : Dec (k ≡ n) → get_or (set l n v) k d ≡ cond (ltb k (n + 1)) (f k) d
        go (yes p) = rw (p, lt-ltb n (n + 1) (omega arith)) (get_or-set_same l n v d h ∙ e)
        go (no q) = get_or-set_other l n k v d q ∙ all k ∙ rw (test q)

    filled_from : (n : ℕ) → Filled f n (list_from f 0 n)
    filled_from n k =
        by_le n k
        (λ b. rw (le-ltb k n b) (get_or-eq_default (list_from f 0 n) d (omega (arith, from_length f n 0))))
        (λ b. rw (lt-ltb k n b) (from_at f n 0 k d b ∙ ap f (omega arith)))

    -- Such a table is the array of these values.
    filled_array : (l : List A) (m n : ℕ) → length l ≡ m → Filled f n l → l ≡ array_of d m (list_from f 0 n)
    unfolding array_of
    filled_array l m n long all =
        let g : ℕ → A = λ k. get_or (list_from f 0 n) k d in
        ext_get_or d l (list_from g 0 m) (long ∙ sym (from_length g m 0))
        (λ k b. all k ∙ sym (filled_from n k) ∙ ap g {y = 0 + k} (omega arith) ∙ sym (from_at g m 0 k d (omega arith)))

    -- A loop that fills an array of m with n values: i of them are in the array.
    pub record Filling (m n : ℕ) (l : List A) (i : ℕ) : Type 0 where
      pub few : n ≤ m
      pub within : i ≤ n
      pub long : length l ≡ m
      pub filled : Filled f i l

    module _ (m n : ℕ) where
      pub begin : n ≤ m → Filling m n (replicate m d) 0
      begin h = record { few = h; within = omega arith; long = length-replicate m d; filled = filled_none m }

      module _ (l : List A) (i : ℕ) (g : Filling m n l i) where
        pub onward : (v : A) → v ≡ f i → i < n → Filling m n (set l i v) (i + 1)
        onward v e h = record {
          few = g.few;
          within = omega arith;
          long = length-set l i v ∙ g.long;
          filled = filled_more l i v (omega (arith, g.long, g.few)) e g.filled;
        }

        pub ended : n ≤ i → l ≡ array_of d m (list_from f 0 n)
        ended h = let z : i ≡ n = omega (arith, g.within) in filled_array l m n g.long (rw z at g.filled)
