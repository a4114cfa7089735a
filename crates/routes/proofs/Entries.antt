-- Check 13 over a list of entries, and what each of the entries that it accepts is.
use Prim.Native.Nat.{ℕ, ◌+◌, ◌-◌, ◌≤◌, ◌<◌}
use native.Mathlib.Omega.{arith}
use mathlib.Core.Path.{◌≡◌, sym, ap, ◌∙◌}
use mathlib.Core.Bool.{true, false}
use mathlib.Core.List.{List, ◌∷◌}
use lib.Dec.{leb}
use borrow.Author.Tests.{le-leb, leb-true}
use Rattle.theory.proofs.Bools.{and_true}
use Rattle.sheet.specs.Bytes.{list_from}
use Rattle.sheet.proofs.Records.{from_cons, from_none}
use Rattle.shape.specs.declared.shape.Shape.{Shape}
use Rattle.routes.specs.declared.layout.Entry.{Entry}
use Rattle.routes.specs.Layout.{entry_count}
use Rattle.routes.specs.Checks.{entry_good, next_good, entries_good}

-- The ways of an entry through the check.
module _ (m : Shape) (S least : ℕ) (e : Entry) (es : List Entry) where
  stopped : next_good m S least e ≡ false → entries_good m S least (e ∷ es) ≡ false
  unfolding entries_good
  stopped k = rw k

  further : next_good m S least e ≡ true → entries_good m S least (e ∷ es) ≡ entries_good m S (e.dest + 1) es
  unfolding entries_good
  further k = rw k

  pub passed : least ≤ e.dest → entry_good m S e ≡ true → entries_good m S least (e ∷ es) ≡ entries_good m S (e.dest + 1) es
  unfolding next_good
  passed h k = further (rw (le-leb least e.dest h, k))

  pub record Cons : Type 0 where
    pub rises : least ≤ e.dest
    pub here : entry_good m S e ≡ true
    pub later : entries_good m S (e.dest + 1) es ≡ true

  pub cons : entries_good m S least (e ∷ es) ≡ true → Cons
  unfolding entries_good next_good
  cons h =
      let p = and_true (next_good m S least e) _ h in
      let q = and_true (leb least e.dest) _ p.0 in
      record { rises = leb-true least e.dest q.0; here = q.1; later = p.1 }

-- The loop: with i of n entries passed, the check of all is that of the entries left. f gives the entry of a number, in whatever format the sheet s is read.
pub record Checking (f : ℕ → Entry) (s : List ℕ) (m : Shape) (S n least i : ℕ) : Type 0 where
  pub count : n ≡ entry_count s
  pub within : i ≤ n
  pub small : least ≤ 65536
  pub rest : entries_good m S 0 (list_from f 0 (entry_count s)) ≡ entries_good m S least (list_from f i (n - i))

module _ (f : ℕ → Entry) (s : List ℕ) (m : Shape) (S n : ℕ) where
  pub begin : n ≡ entry_count s → Checking f s m S n 0 0
  begin e = record { count = e; within = omega arith; small = omega arith; rest = let z : n - 0 ≡ entry_count s = omega arith in rw z }

  module _ (least i : ℕ) (g : Checking f s m S n least i) where
    pub ended : n ≤ i → true ≡ entries_good m S 0 (list_from f 0 (entry_count s))
    unfolding entries_good
    ended h = sym (g.rest ∙ ap (entries_good m S least) (from_none f i n h))

    module _ (e : Entry) (q : e ≡ f i) (h : i < n) where
      turn : entries_good m S 0 (list_from f 0 (entry_count s)) ≡ entries_good m S least (e ∷ list_from f (i + 1) (n - (i + 1)))
      turn = g.rest ∙ ap (entries_good m S least) (from_cons f i n h) ∙ rw q

      pub refused : next_good m S least e ≡ false → false ≡ entries_good m S 0 (list_from f 0 (entry_count s))
      refused x = sym (turn ∙ stopped m S least e _ x)

      pub onward : next_good m S least e ≡ true → e.dest < 65536 → Checking f s m S n (e.dest + 1) (i + 1)
      onward x b = record { count = g.count; within = omega arith; small = omega arith; rest = turn ∙ further m S least e _ x }
