-- The first entry for a destination.
use Prim.Native.Nat.{ℕ, zero, suc, ◌+◌, ◌≤◌, ◌<◌}
use native.Mathlib.Omega.{arith}
use mathlib.Core.Path.{◌≡◌, refl, ◌∙◌}
use mathlib.Core.List.{List, ◌∷◌}
use borrow.Author.Tests.{eq-eqb, ne_eqb, lt-ltb, le-ltb}
use Rattle.std.specs.Prelude.{Option, Some, None, MatchOption}
use Rattle.theory.proofs.Cases.{by_le}
use Rattle.sheet.specs.Bytes.{list_from}
use Rattle.routes.specs.declared.layout.Entry.{Entry}
use Rattle.routes.specs.Layout.{entry_count, entry_at, entries_of}
use Rattle.routes.specs.Lookup.{find, find_entry}

module _ (e : Entry) (es : List Entry) (d : ℕ) where
  pub here : e.dest ≡ d → find (e ∷ es) d ≡ 0
  unfolding find
  here h = rw (eq-eqb e.dest d h)

  pub later : (e.dest ≡ d → ⊥) → find (e ∷ es) d ≡ find es d + 1
  unfolding find
  later h = rw (ne_eqb e.dest d h)

-- By the entries of numbers from i on: none of them is for d, or j is the first.
module _ (f : ℕ → Entry) (d : ℕ) where
  none_from : (n i : ℕ) → ((k : ℕ) → i ≤ k → k < i + n → (f k).dest ≡ d → ⊥) → find (list_from f i n) d ≡ n
  unfolding list_from find
  none_from zero i free = refl
  none_from (suc n) i free = later (f i) (list_from f (suc i) n) d (free i (omega arith) (omega arith)) ∙ omega (arith, none_from n (suc i) (λ k a b. free k (omega arith) (omega arith)))

  first_from : (n i j : ℕ) → i ≤ j → j < i + n → (f j).dest ≡ d → ((k : ℕ) → i ≤ k → k < j → (f k).dest ≡ d → ⊥) → i + find (list_from f i n) d ≡ j
  unfolding list_from
  first_from zero i j a b is free = absurd (omega arith)
  first_from (suc n) i j a b is free =
      by_le j i
      (λ h. let q : i ≡ j = omega arith in omega (arith, here (f i) (list_from f (suc i) n) d (rw q is)))
      (λ h. omega (arith, later (f i) (list_from f (suc i) n) d (free i (omega arith) h), first_from n (suc i) j h (omega arith) is (λ k x y. free k (omega arith) y)))

-- What is found among the numbers of all entries.
pub found_first :
    (s : List ℕ) (d n : ℕ) (r : Option ℕ) → n ≡ entry_count s →
    MatchOption r ((k : ℕ) → 0 ≤ k → k < n → (entry_at s k).dest ≡ d → ⊥) (λ i. (0 ≤ i) × (i < n) × ((entry_at s i).dest ≡ d) × ((k : ℕ) → 0 ≤ k → k < i → (entry_at s k).dest ≡ d → ⊥)) →
    r ≡ find_entry s d
unfolding find_entry entries_of
found_first s d n None e h =
    let z : find (list_from (entry_at s) 0 n) d ≡ n = none_from (entry_at s) d n 0 (λ k a b. h k a (omega arith)) in
    rw (← e, z, le-ltb n n (omega arith))
found_first s d n (Some i) e h =
    let z : find (list_from (entry_at s) 0 n) d ≡ i = omega (arith, first_from (entry_at s) d n 0 i h.0 (omega (arith, h.1)) h.2 h.3) in
    rw (← e, z, lt-ltb i n h.1)
