-- Counting the entries of kind 11.
use Prim.Native.Nat.{ℕ, ◌+◌, ◌-◌, ◌≤◌, ◌<◌}
use native.Mathlib.Omega.{arith}
use mathlib.Core.Path.{◌≡◌}
use mathlib.Core.Bool.{Bool, true, false, cond}
use mathlib.Core.List.{List}
use lib.Dec.{eqb}
use Rattle.routes.specs.Kinds.{none_kind}
use Rattle.sheet.specs.Bytes.{list_from}
use Rattle.sheet.proofs.Records.{from_cons, from_none}
use Rattle.routes.specs.Layout.{entry_count, entry_at, entries_of}
use Rattle.sheets.specs.Tally.{is_without, without_in}

-- The entries before i hold `without` of them.
pub record Counting (s : List ℕ) (count without i : ℕ) : Type 0 where
  pub few : without ≤ i
  pub sum : without + without_in (list_from (entry_at s) i (count - i)) ≡ without_in (entries_of s)

one_most : (b : Bool) → cond b 1 0 ≤ 1
one_most true = omega arith
one_most false = omega arith

module _ (s : List ℕ) (count : ℕ) where
  pub begin : count ≡ entry_count s → Counting s count 0 0
  unfolding entries_of
  begin e = let z : count - 0 ≡ entry_count s = omega arith in record { few = omega arith; sum = rw z (omega arith) }

  module _ (without i : ℕ) (g : Counting s count without i) where
    pub next : i < count → (one : ℕ) → one ≡ is_without (entry_at s i).kind → (one ≤ 1) × Counting s count (without + one) (i + 1)
    unfolding without_in
    next l one e =
        let small : one ≤ 1 = rw e (one_most (eqb (entry_at s i).kind none_kind)) in
        let rest : without_in (list_from (entry_at s) i (count - i)) ≡ one + without_in (list_from (entry_at s) (i + 1) (count - (i + 1))) = rw (from_cons (entry_at s) i count l, e) in
        (small, record { few = omega (arith, g.few); sum = omega (arith, g.sum, rest) })

    pub ended : count ≤ i → without ≡ without_in (entries_of s)
    unfolding without_in
    ended h = let z : without_in (list_from (entry_at s) i (count - i)) ≡ 0 = rw (from_none (entry_at s) i count h) in omega (arith, g.sum, z)
